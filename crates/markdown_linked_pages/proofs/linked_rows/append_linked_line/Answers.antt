use Rattle.std.specs.Prelude.{string_bytes}
use Rattle.mad_pages.specs.PageRows.{row_content}
use Rattle.markdown_linked_pages.proofs.LinkedLemmas.{other_line, table_line}
use Rattle.markdown_linked_pages.proofs.linked_rows.append_linked_line.Goals as goal

pub returns-in_ok-append_plain_line-in_default : goal.returns-in_ok-append_plain_line-in_default
returns-in_ok-append_plain_line-in_default c =
    other_line c.args.skin.skin.now c.args.outer c.args.filled (row_content c.args.row.now) c.has_ascii_boxes.result c.skin_of_line-inner.result c.columns_behind-columns.result c.is_filled-filled.result c.args.skin.addresses.now (string_bytes c.args.rows.now) (string_bytes c.append_plain_line.new.rows)
    c.has_ascii_boxes.ensures c.skin_of_line-inner.ensures c.columns_behind-columns.ensures c.is_filled-filled.ensures c.in_default.not-Normal c.in_default.not-TableRow c.in_ok-append_plain_line-in_default.ensures

pub returns-in_ok-append_cells-in-TableRow : goal.returns-in_ok-append_cells-in-TableRow
returns-in_ok-append_cells-in-TableRow c =
    table_line c.args.skin.skin.now c.args.outer c.args.filled (row_content c.args.row.now) c.has_ascii_boxes.result c.skin_of_line-inner.result c.columns_behind-columns.result c.is_filled-filled.result c.args.skin.addresses.now (string_bytes c.args.rows.now) (string_bytes c.append_cells.new.rows)
    c.in-TableRow.table c.has_ascii_boxes.ensures c.skin_of_line-inner.ensures c.columns_behind-columns.ensures c.is_filled-filled.ensures c.in-TableRow.is (rw c.deref.ensures.value at c.in_ok-append_cells-in-TableRow.ensures)
