use Rattle.std.proofs.Common.{◌≡◌, ◌≤◌, ◌-◌, length, map, take}
use Rattle.mad_md.specs.Lines.{styled_runs}
use Rattle.mad_marked_rows.specs.MarkedTexts.{SameFrom}
use Rattle.markdown_linked_pages.specs.CellMarks.{cells_values, number_past, on_top}
use Rattle.markdown_linked_pages.specs.ColumnsKept.{column_values}
use Rattle.markdown_linked_pages.proofs.column_marks.push_cells.Given as goal

abbrev pub invariant-loop-i : goal.invariant-loop-i
invariant-loop-i l = record {
  within : l.i ≤ length l.cells;
  columns : map column_values l.columns.items ≡ on_top (map column_values l.fn.columns.items) (cells_values l.fn.cursor.runs.now l.fn.cursor.number (take l.i (map styled_runs l.cells)));
  number : l.cursor.number ≡ number_past l.fn.cursor.number (take l.i (map styled_runs l.cells));
  same : SameFrom l.fn.cursor.runs.now l.cursor.runs.now l.cursor.number;
}

abbrev pub decreases-loop-i : goal.decreases-loop-i
decreases-loop-i l = length l.cells - l.i
