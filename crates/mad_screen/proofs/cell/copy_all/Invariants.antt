use Rattle.std.proofs.Common.{◌≡◌, take}
use Rattle.mad_screen.proofs.cell.copy_all.Given as goal

abbrev pub invariant-loop-cell : goal.invariant-loop-cell
invariant-loop-cell l = l.copies.items ≡ take l.cell-index l.cells
