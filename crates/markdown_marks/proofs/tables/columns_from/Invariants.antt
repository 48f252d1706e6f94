use Rattle.std.proofs.Common.{◌≡◌, ◌≤◌, ◌+◌, length}
use Rattle.markdown_marks.specs.Tables.{columns_from}
use Rattle.markdown_marks.specs.declared.tables.Spot.TheVariants.{Front}
use Rattle.markdown_marks.proofs.tables.columns_from.Given as goal

abbrev pub invariant-loop-rest : goal.invariant-loop-rest
invariant-loop-rest l = record { left : columns_from l.spot l.count l.rest ≡ columns_from Front 0 l.bytes; few : l.count + length l.rest ≤ length l.bytes }

abbrev pub decreases-loop-rest : goal.decreases-loop-rest
decreases-loop-rest l = length l.rest
