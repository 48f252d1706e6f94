use Rattle.std.proofs.Common.{◌≡◌, map, take}
use Rattle.markdown_linked_pages.specs.ColumnsKept.{column_values, values_left}
use Rattle.markdown_linked_pages.proofs.cell_marks.whole_columns.Given as goal

abbrev pub invariant-loop-column : goal.invariant-loop-column
invariant-loop-column l = map values_left l.left.items ≡ map column_values (take l.column-index l.columns)
