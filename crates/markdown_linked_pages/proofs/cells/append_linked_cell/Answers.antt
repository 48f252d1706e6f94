use Rattle.std.proofs.Common.{ℕ, Option, List, true, None}
use Rattle.std.specs.Prelude.{string_bytes}
use Rattle.mad_marks.specs.LineMarks.{has_mark}
use Rattle.mad_marked_rows.specs.LinkedRows.{linked_composite}
use Rattle.mad_marked_rows.specs.Paints.{paint_by}
use Rattle.mad_rows.specs.Rows.{cell_margins}
use Rattle.markdown_linked_pages.proofs.CellLemmas.{closed_pieces}
use Rattle.markdown_linked_pages.proofs.cells.append_linked_cell.Goals as goal

pub returns : goal.returns
returns c =
    let skin = c.args.skin in
    closed_pieces skin.addresses.now (string_bytes c.args.rows.now) (string_bytes c.push_end.new.row) (string_bytes c.append_open_composite.new.rows, c.in_ok-link.link)
    (linked_composite (paint_by skin.paint.styles.now) has_mark c.args.cursor.runs.now skin.skin.now None (cell_margins skin.skin.now) true c.args.cursor.number c.args.cell.now) (rw c.cell_margins.ensures at c.in_ok-link.ensures) c.in_ok-push_end.ensures
