use Rattle.std.proofs.Common.{take}
use Rattle.std.specs.List.{AllByRecursion}
use Rattle.mad_rows.proofs.rows.know_all.Given as goal

abbrev pub invariant-loop-style : goal.invariant-loop-style
invariant-loop-style g l = AllByRecursion g.S.KnownStyle.known (take l.style-index l.styles)
