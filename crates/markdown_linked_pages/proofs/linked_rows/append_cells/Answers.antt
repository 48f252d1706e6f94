use Rattle.std.specs.Prelude.{string_bytes}
use Rattle.std.proofs.Common.{[]}
use Rattle.mad_marks.specs.LineMarks.{has_mark}
use Rattle.mad_marks.specs.RowNumbers.{firsts_of}
use Rattle.mad_marked_rows.specs.Paints.{paint_by}
use Rattle.markdown_linked_pages.proofs.CellLemmas.{row_closed}
use Rattle.markdown_linked_pages.proofs.linked_rows.append_cells.Goals as goal

pub returns : goal.returns
returns c =
    let place = c.args.place in
    row_closed (paint_by []) has_mark c.args.runs.now c.args.skin.now place.outer place.filled (firsts_of has_mark place.number c.args.cells.now) c.args.cells.now c.args.addresses.now (string_bytes c.args.rows.now) (string_bytes c.append_linked_table_row.new.rows)
    (rw c.no_tones-paint.ensures at c.in_ok-append_linked_table_row.ensures)
