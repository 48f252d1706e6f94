use Rattle.std.proofs.Common.{◌-◌, List, ◌∷◌, length, drop, refl, ap, ◌∙◌, rules}
use Rattle.mad_field_rows.specs.RowChars.{ellipsis, filled_row}
use Rattle.mad_field_rows.specs.LineRows.{marked_between}
use Rattle.mad_field_rows.specs.declared.line_rows.RowChar.{RowChar}
use Rattle.mad_field_rows.specs.declared.line_rows.LineRow.{LineRow}
use Rattle.mad_field_rows.proofs.WidthLemmas.{ellipsis_column}
use Rattle.mad_field_rows.proofs.RowLemmas.{step_fits, step_hidden}
use Rattle.mad_field_rows.proofs.line_rows.LineRow.next_of_line.Goals as goal

pub returns-then-does_fit-clause-next : goal.returns-then-does_fit-clause-next
returns-then-does_fit-clause-next c =
    let s : LineRow = c.args.self.now in
    step_fits s.password s.selected.0 s.selected.1 s.x s.room c.char_width-width.result s.line.now s.at_end _ _ c.does_fit.result c.requires.left c.requires.room c.shown_char-c.ensures c.is_between-marked.ensures
    c.char_width-width.ensures.value refl c.does_fit.ensures (search rules)

pub returns-clause-next : goal.returns-clause-next
returns-clause-next c =
    let s : LineRow = c.args.self.now in
    let r : RowChar = record { c = c.shown_char-c.result; marked = c.is_between-marked.result } in
    let rest : List RowChar = marked_between s.password s.selected.0 s.selected.1 (length s.line.now) (drop (length s.line.now) s.line.now) in
    step_hidden s.password s.selected.0 s.selected.1 s.x s.room c.char_width-width.result s.line.now s.at_end r _ c.does_fit.result c.requires.left c.requires.room c.shown_char-c.ensures c.is_between-marked.ensures
    c.char_width-width.ensures.value refl c.does_fit.ensures (search rules)
    ∙ ap (λ n. let y : RowChar = record { c = ellipsis; marked = r.marked } in y ∷ filled_row rest s.at_end (s.room - n)) ellipsis_column
