use Rattle.std.proofs.Common.{◌≡◌, ◌++◌, map, string_bytes}
use Rattle.std.specs.Vec.Iter.{into_iter_items}
use Rattle.mad_pages.specs.PageRows.{row_content}
use Rattle.markdown_linked_pages.specs.CellMarks.{with_cell_marks}
use Rattle.markdown_linked_pages.specs.ColumnsKept.{column_values, values_left}
use Rattle.markdown_linked_pages.specs.LinkedPages.{linked_rows_bytes}
use Rattle.markdown_linked_pages.proofs.linked_page_writing.append_own_rows.Given as goal

abbrev pub invariant-loop-row : goal.invariant-loop-row
invariant-loop-row l =
    string_bytes l.rows ++ linked_rows_bytes l.skin.addresses.now l.skin.skin.now l.width (with_cell_marks (map values_left l.left.items) (map row_content (into_iter_items l.row-iterator)))
    ≡ string_bytes l.fn.rows ++ linked_rows_bytes l.skin.addresses.now l.skin.skin.now l.width (with_cell_marks (map column_values l.columns) (map row_content l.fn.page_rows.items))
