use Rattle.std.proofs.Common.{◌≡◌, ◌≤◌, ◌+◌, false, length}
use Rattle.markdown_marks.specs.Tables.{cells_from}
use Rattle.markdown_marks.proofs.tables.cells_from.Given as goal

abbrev pub invariant-loop-rest : goal.invariant-loop-rest
invariant-loop-rest l = record { left : cells_from l.escaped l.some l.count l.rest ≡ cells_from false false 0 l.bytes; few : l.count + length l.rest ≤ length l.bytes }

abbrev pub decreases-loop-rest : goal.decreases-loop-rest
decreases-loop-rest l = length l.rest
