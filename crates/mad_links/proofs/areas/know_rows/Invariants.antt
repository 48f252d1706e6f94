use Rattle.std.proofs.Common.{ℕ, ◌<◌}
use Rattle.mad_draw.specs.Pieces.{AreKnown}
use Rattle.mad_links.specs.LinkedAreas.{without_links}
use Rattle.mad_links.proofs.areas.know_rows.Given as goal

abbrev pub invariant-loop-y : goal.invariant-loop-y
invariant-loop-y g l = (y : ℕ) → y < l.y → AreKnown (without_links (g.R.LinkedRows.pieces l.rows y))
