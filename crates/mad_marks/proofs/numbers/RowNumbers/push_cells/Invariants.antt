use Rattle.std.proofs.Common.{◌≡◌, ◌≤◌, ◌-◌, ◌++◌, ◌∷◌, [], length, take}
use Rattle.mad_marks.specs.LineMarks.{has_mark}
use Rattle.mad_marks.specs.RowNumbers.{passed, row_numbers}
use Rattle.mad_marks.proofs.numbers.RowNumbers.push_cells.Given as goal

abbrev pub invariant-loop-i : goal.invariant-loop-i
invariant-loop-i l = record {
  within : l.i ≤ length l.cells;
  numbers : l.self.numbers.items ≡ l.fn.self.numbers.items ++ row_numbers l.fn.firsts (take l.i l.cells);
  starts : l.self.starts.items ≡ l.fn.self.starts.items ++ length l.fn.self.numbers.items ∷ [];
  passed : l.firsts ≡ passed has_mark l.fn.firsts (take l.i l.cells);
}

abbrev pub decreases-loop-i : goal.decreases-loop-i
decreases-loop-i l = length l.cells - l.i
