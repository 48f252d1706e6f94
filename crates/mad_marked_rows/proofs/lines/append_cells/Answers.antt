use Rattle.std.proofs.Common.{◌++◌, ◌∙◌, ap, None, true}
use Rattle.std.specs.Prelude.{string_bytes}
use Rattle.mad_term.specs.Styles.{piece_bytes}
use Rattle.mad_style.specs.declared.styled_chars.StyledChar.{StyledChar}
use Rattle.mad_draw.specs.Pieces.{char_piece}
use Rattle.mad_links.specs.LinkRows.{linked_bytes}
use Rattle.mad_format.specs.declared.composite.FmtComposite.{FmtComposite}
use Rattle.mad_marks.specs.LineMarks.{has_mark}
use Rattle.mad_marked_rows.specs.Paints.{paint_by}
use Rattle.mad_marked_rows.specs.LinkedRows.{linked_composite}
use Rattle.mad_marked_rows.proofs.RowLemmas.{cell_gone}
use Rattle.mad_rows.specs.Rows.{cell_margins}
use Rattle.mad_marked_rows.proofs.lines.append_cells.Goals as goal

pub loop-cell-preserved : goal.loop-cell-preserved
loop-cell-preserved c =
    let before = c.loop-cell in
    let paint = paint_by c.args.skin.paint.styles.now in
    cell_gone paint has_mark c.args.skin.runs.now c.args.skin.skin.now c.args.skin.addresses.now (string_bytes before.rows) (string_bytes c.write.new.self) (string_bytes c.append_composite.new.rows) _ before.left.now c.tail-left.result.now c.args.cells.now before.cell-index
    c.first.result c.cell-item.result c.loop-cell-test.true
    (c.in_ok-write.ensures.bytes ∙ ap (λ (b : StyledChar). string_bytes before.rows ++ piece_bytes (char_piece b).style (char_piece b).text) c.vertical-border.ensures)
    c.first.ensures
    ((rw c.cell_margins-margins.ensures at c.in_ok-append_composite.ensures) ∙ ap (λ (x : FmtComposite). string_bytes c.write.new.self ++ linked_bytes c.args.skin.addresses.now (linked_composite paint has_mark c.args.skin.runs.now c.args.skin.skin.now None (cell_margins c.args.skin.skin.now) true c.first.result x)) c.cell-item.is)
    c.tail-left.ensures before.invariant
