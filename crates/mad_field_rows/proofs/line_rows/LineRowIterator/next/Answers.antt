use Rattle.std.proofs.Common.{Some, refl, ap, sym, ◌∙◌, ◌∷◌, List}
use Rattle.mad_field_rows.specs.declared.line_rows.RowChar.{RowChar}
use Rattle.mad_field_rows.specs.RowChars.{first_ellipsis}
use Rattle.mad_field_rows.proofs.CursorLemmas.{left_behind_front, left_without_front, steps_after, goes_on}
use Rattle.mad_field_rows.proofs.line_rows.LineRowIterator.next.Goals as goal

pub returns-then-self-clause-steps : goal.returns-then-self-clause-steps
returns-then-self-clause-steps c =
    left_behind_front c.args.self.now c.if-self.true ∙ ap (λ (cs : List RowChar). first_ellipsis ∷ cs) (sym (left_without_front _ refl))

pub returns-then-self-clause-goes : goal.returns-then-self-clause-goes
returns-then-self-clause-goes c =
    goes_on c.args.self.now _ (Some first_ellipsis) (left_behind_front c.args.self.now c.if-self.true ∙ ap (λ (cs : List RowChar). first_ellipsis ∷ cs) (sym (left_without_front _ refl)))

pub returns-clause-steps : goal.returns-clause-steps
returns-clause-steps c = steps_after _ _ c.next_char.result c.if-self.false c.next_char.ensures.front c.next_char.ensures.next c.next_char.ensures.none

pub returns-clause-goes : goal.returns-clause-goes
returns-clause-goes c =
    goes_on _ _ c.next_char.result (steps_after _ _ c.next_char.result c.if-self.false c.next_char.ensures.front c.next_char.ensures.next c.next_char.ensures.none)
