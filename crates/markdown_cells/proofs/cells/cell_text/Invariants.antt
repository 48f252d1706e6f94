use Rattle.std.proofs.Common.{◌≡◌, [], length, false}
use Rattle.markdown_cells.specs.Cells.{unbarred}
use Rattle.markdown_cells.proofs.cells.cell_text.Given as goal

abbrev pub invariant-loop-rest : goal.invariant-loop-rest
invariant-loop-rest l = unbarred l.text.items l.escaped l.rest ≡ unbarred [] false l.cell

abbrev pub decreases-loop-rest : goal.decreases-loop-rest
decreases-loop-rest l = length l.rest
