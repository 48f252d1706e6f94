use Rattle.std.proofs.Common.{◌≡◌, ◌+◌, length, false}
use Rattle.markdown_cells.specs.Cells.{cell_len}
use Rattle.markdown_cells.proofs.cells.cell_len.Given as goal

abbrev pub invariant-loop-rest : goal.invariant-loop-rest
invariant-loop-rest l = record { left : l.len + cell_len l.escaped l.rest ≡ cell_len false l.row; few : l.len + length l.rest ≡ length l.row }

abbrev pub decreases-loop-rest : goal.decreases-loop-rest
decreases-loop-rest l = length l.rest
