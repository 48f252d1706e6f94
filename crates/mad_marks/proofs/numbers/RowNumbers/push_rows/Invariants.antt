use Rattle.std.proofs.Common.{◌≡◌, ℕ, List, ◌++◌, drop, map}
use Rattle.mad_marks.specs.LineMarks.{has_mark}
use Rattle.mad_marks.specs.RowNumbers.{cells_of, rows_numbers, Holds}
use Rattle.mad_marks.proofs.numbers.RowNumbers.push_rows.Given as goal

abbrev pub invariant-loop-row : goal.invariant-loop-row
invariant-loop-row l = (ns : List (List ℕ)) → Holds l.fn.self ns → (done : List (List ℕ)) × Holds l.self done × (done ++ rows_numbers has_mark l.firsts (map cells_of (drop l.row-index l.rows)) ≡ ns ++ rows_numbers has_mark l.fn.firsts (map cells_of l.rows))
