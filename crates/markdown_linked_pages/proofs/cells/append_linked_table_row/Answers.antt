use Rattle.std.proofs.Common.{◌++◌, ◌∙◌, ap}
use Rattle.std.specs.Prelude.{string_bytes}
use Rattle.mad_term.specs.Styles.{piece_bytes}
use Rattle.mad_style.specs.declared.styled_chars.StyledChar.{StyledChar}
use Rattle.mad_draw.specs.Pieces.{char_piece}
use Rattle.mad_rows.specs.Rows.{row_columns}
use Rattle.mad_marks.specs.LineMarks.{has_mark}
use Rattle.mad_marks.specs.RowNumbers.{firsts_of}
use Rattle.mad_marked_rows.specs.Paints.{paint_by}
use Rattle.mad_marked_rows.proofs.RowLemmas.{row_bytes}
use Rattle.markdown_linked_pages.proofs.cells.append_linked_table_row.Goals as goal

pub returns : goal.returns
returns c =
    let skin = c.args.skin in
    row_bytes (paint_by skin.paint.styles.now) has_mark skin.runs.now skin.skin.now c.args.place.outer c.args.place.filled (firsts_of has_mark c.args.place.number c.args.cells.now) c.args.cells.now skin.addresses.now c.spaces_beside.result.0 c.spaces_beside.result.1
    (string_bytes c.args.rows.now) (string_bytes c.write.new.self) (string_bytes c.append_linked_cells.new.rows) (string_bytes c.write-2.new.self) (string_bytes c.write-3.new.self)
    (c.spaces_beside.ensures.left (row_columns c.args.skin.skin.now c.args.cells.now) c.row_columns-columns.ensures) (c.spaces_beside.ensures.right (row_columns c.args.skin.skin.now c.args.cells.now) c.row_columns-columns.ensures) c.in_ok-write.ensures.bytes c.in_ok-append_linked_cells.ensures
    (c.in_ok-write-2.ensures.bytes ∙ ap (λ (b : StyledChar). string_bytes c.append_linked_cells.new.rows ++ piece_bytes (char_piece b).style (char_piece b).text) c.vertical-border.ensures)
    c.in_ok-write-3.ensures.bytes
