use Rattle.std.proofs.Common.{List, ℕ, ◌++◌, ◌∙◌, ap, string_bytes}
use Rattle.mad_term.specs.Styles.{piece_bytes}
use Rattle.mad_style.specs.declared.styled_chars.StyledChar.{StyledChar}
use Rattle.mad_draw.specs.Pieces.{char_piece}
use Rattle.mad_rows.specs.Rows.{row_columns}
use Rattle.mad_rows.proofs.PlacedLemmas.{row_put}
use Rattle.mad_rows.proofs.placed_writing.append_table_row.Goals as goal

pub returns : goal.returns
returns c =
    let skin = c.args.skin.now in
    let cells = c.args.cells.now in
    let two : List ℕ = string_bytes c.append_cells.new.rows in
    row_put skin c.args.width cells c.spaces_beside.result.0 c.spaces_beside.result.1 (string_bytes c.args.rows.now) (string_bytes c.append_blanks.new.rows) two (string_bytes c.append_char.new.rows) (string_bytes c.append_blanks-2.new.rows)
    (c.spaces_beside.ensures.left (row_columns skin cells) c.row_columns-columns.ensures) (c.spaces_beside.ensures.right (row_columns skin cells) c.row_columns-columns.ensures) c.in_ok-append_blanks.ensures c.in_ok-append_cells.ensures
    (c.in_ok-append_char.ensures ∙ ap (λ (b : StyledChar). two ++ piece_bytes (char_piece b).style (char_piece b).text) c.vertical-border.ensures) c.in_ok-append_blanks-2.ensures
