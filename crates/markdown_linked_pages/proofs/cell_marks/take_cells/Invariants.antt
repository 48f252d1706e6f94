use Rattle.std.proofs.Common.{◌≡◌, ◌≤◌, ◌-◌, ◌++◌, length, map, take}
use Rattle.markdown_linked_pages.specs.CellMarks.{columns_below, row_values, single_runs}
use Rattle.markdown_linked_pages.specs.ColumnsKept.{values_left}
use Rattle.markdown_linked_pages.proofs.cell_marks.take_cells.Given as goal

abbrev pub invariant-loop-i : goal.invariant-loop-i
invariant-loop-i l = record {
  within : l.i ≤ length l.cells;
  marks : l.marks.items ≡ l.fn.marks.items ++ single_runs (length l.fn.marks.items) (row_values (map values_left l.fn.left) (take l.i l.cells));
  left : map values_left l.left ≡ columns_below (map values_left l.fn.left) (take l.i l.cells);
}

abbrev pub decreases-loop-i : goal.decreases-loop-i
decreases-loop-i l = length l.cells - l.i
