use Rattle.std.proofs.Common.{◌+◌, ◌++◌, ◌∙◌, ap, arith, ℕ, true, None, ◌≤◌, List}
use Rattle.std.specs.Borrow.{Bor}
use Rattle.mad_mark_runs.specs.Marks.{next_start}
use Rattle.mad_mark_runs.specs.declared.mark_runs.MarkRun.{MarkRun}
use Rattle.std.specs.Prelude.{string_bytes}
use Rattle.mad_term.specs.Styles.{piece_bytes}
use Rattle.mad_style.specs.declared.styled_chars.StyledChar.{StyledChar}
use Rattle.mad_draw.specs.Pieces.{char_piece}
use Rattle.mad_links.specs.LinkRows.{linked_bytes}
use Rattle.mad_format.specs.declared.composite.FmtComposite.{FmtComposite}
use Rattle.mad_marks.specs.LineMarks.{has_mark}
use Rattle.mad_marks.specs.RowNumbers.{count_in}
use Rattle.mad_marked_rows.specs.LinkedRows.{linked_composite}
use Rattle.mad_marked_rows.specs.Paints.{paint_by}
use Rattle.mad_rows.specs.Rows.{cell_margins}
use Rattle.markdown_linked_pages.proofs.CellLemmas.{cell_on, cell_passed}
use Rattle.markdown_linked_pages.proofs.cells.append_linked_cells.Goals as goal

pub loop-cell-preserved : goal.loop-cell-preserved
loop-cell-preserved c =
    let before = c.loop-cell in
    let skin = c.args.skin in
    let paint = paint_by skin.paint.styles.now in
    let number = c.pass.new.self.number in
    let counted = c.in_ok-pass.ensures.number ∙ ap (λ (k : ℕ). before.cursor.number + k) (c.in_ok-count_in.ensures ∙ ap (λ (x : FmtComposite). count_in has_mark x) c.cell-item.is) in
    let up : before.cursor.number ≤ number = omega (arith, counted) in
    record {
      so_far = cell_on paint has_mark skin.runs.now before.cursor.runs.now skin.skin.now skin.addresses.now (string_bytes before.rows) (string_bytes c.write.new.self) (string_bytes c.append_linked_cell.new.rows) _ c.args.cells.now before.cell-index before.cursor.number number c.cell-item.result
          c.loop-cell-test.true before.invariant.same (c.in_ok-write.ensures.bytes ∙ ap (λ (b : StyledChar). string_bytes before.rows ++ piece_bytes (char_piece b).style (char_piece b).text) c.vertical-border.ensures)
          (c.in_ok-append_linked_cell.ensures ∙ ap (λ (x : FmtComposite). string_bytes c.write.new.self ++ linked_bytes skin.addresses.now (linked_composite paint has_mark before.cursor.runs.now skin.skin.now None (cell_margins skin.skin.now) true before.cursor.number x)) c.cell-item.is)
          counted before.invariant.so_far;
      same = cell_passed skin.runs.now before.cursor.runs.now c.next_start-cursor.result.now before.cursor.number number c.saturating_sub.result up c.saturating_sub.ensures (c.next_start-cursor.ensures ∙ ap (λ (b : Bor (List MarkRun)). next_start b.now c.saturating_sub.result) c.in_ok-pass.ensures.runs) before.invariant.same;
    }
