use Rattle.std.proofs.Common.{◌≡◌, max, drop}
use Rattle.mad_blocks.specs.LayoutParts.{widest}
use Rattle.mad_blocks.proofs.laying.widest.Given as goal

abbrev pub invariant-loop-composite : goal.invariant-loop-composite
invariant-loop-composite l = max l.widest (widest (drop l.composite-index l.block)) ≡ widest l.block
