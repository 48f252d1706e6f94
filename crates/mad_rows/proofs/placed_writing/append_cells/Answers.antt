use Rattle.std.proofs.Common.{List, ℕ, ◌++◌, ◌∙◌, ap, string_bytes}
use Rattle.mad_term.specs.Styles.{piece_bytes}
use Rattle.mad_style.specs.declared.styled_chars.StyledChar.{StyledChar}
use Rattle.mad_draw.specs.Pieces.{char_piece}
use Rattle.mad_rows.proofs.PlacedLemmas.{cell_put}
use Rattle.mad_rows.proofs.placed_writing.append_cells.Goals as goal

pub loop-cell-preserved : goal.loop-cell-preserved
loop-cell-preserved c =
    let now : List ℕ = string_bytes c.loop-cell.rows in
    cell_put c.args.skin.now c.args.cells.now c.loop-cell.cell-index c.cell-item.result (string_bytes c.args.rows.now) now (string_bytes c.append_char.new.rows) (string_bytes c.append_placed.new.rows) c.loop-cell-test.true c.cell-item.is c.loop-cell.invariant
    (c.in_ok-append_char.ensures ∙ ap (λ (b : StyledChar). now ++ piece_bytes (char_piece b).style (char_piece b).text) c.vertical-border.ensures)
    (rw c.cell_margins-margins.ensures at c.in_ok-append_placed.ensures)
