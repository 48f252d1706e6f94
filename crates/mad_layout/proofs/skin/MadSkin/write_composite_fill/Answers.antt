use Rattle.std.proofs.Common.{inl}
use Rattle.mad_layout.proofs.skin.MadSkin.write_composite_fill.Goals as goal

pub returns-clause-writes : goal.returns-clause-writes
returns-clause-writes g c = inl (c.in_ok-filled.filled, c.in_ok-filled.ensures, c.write_fmt_composite.ensures.writes)
