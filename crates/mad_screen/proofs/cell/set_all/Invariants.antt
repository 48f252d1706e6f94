use Rattle.std.proofs.Common.{◌≡◌, ◌++◌, take, drop, length}
use Rattle.mad_screen.proofs.cell.set_all.Given as goal

abbrev pub invariant-loop-i : goal.invariant-loop-i
invariant-loop-i l = record {
  len : length l.cells.items ≡ length l.others;
  set : take l.i l.cells.items ≡ take l.i l.others;
}
