-- The cursor over a line's row.
use Rattle.std.proofs.Common.{◌≡◌, true, false, cond, List, [], ◌∷◌, length, Option, Some, None, ap, sym, ◌∙◌, arith}
use Rattle.std.specs.Prelude.{⊤, IfSome, IfNone}
use Rattle.std.specs.Iterator.{YieldsFirst, item_count, MakesProgress}
use Rattle.mad_field_rows.specs.declared.line_rows.RowChar.{RowChar}
use Rattle.mad_field_rows.specs.declared.line_rows.LineRow.{LineRow}
use Rattle.mad_field_rows.specs.RowChars.{first_ellipsis}
use Rattle.mad_field_rows.specs.LineRows.{line_left, chars_left}

-- with hidden columns the row begins with an ellipsis
pub left_behind_front : (s : LineRow) → s.front ≡ true → chars_left s ≡ first_ellipsis ∷ line_left s
unfolding chars_left
left_behind_front s e = ap (λ b. cond b (first_ellipsis ∷ line_left s) (line_left s)) e

-- without them it is what is left of the line
pub left_without_front : (s : LineRow) → s.front ≡ false → chars_left s ≡ line_left s
unfolding chars_left
left_without_front s e = ap (λ b. cond b (first_ellipsis ∷ line_left s) (line_left s)) e

-- after the first character the row hands out what is left of the line
pub steps_after : (s t : LineRow) (r : Option RowChar) → s.front ≡ false → t.front ≡ s.front → IfSome r (λ c. line_left s ≡ c ∷ line_left t) → IfNone r ((line_left s ≡ []) × (line_left t ≡ [])) → YieldsFirst chars_left s r t
steps_after s t (Some c) e f some none = left_without_front s e ∙ some ∙ ap (λ (cs : List RowChar). c ∷ cs) (sym (left_without_front t (f ∙ e)))
steps_after s t None e f some none = (left_without_front s e ∙ none.0, left_without_front t (f ∙ e) ∙ none.1)

-- each step of a row gets it nearer to its end
pub goes_on : (s t : LineRow) (r : Option RowChar) → YieldsFirst chars_left s r t → MakesProgress (λ _. ⊤) (item_count chars_left) s r t
goes_on s t (Some c) h = record { on = λ finite. (tt, tt, let e : length (chars_left s) ≡ length (c ∷ chars_left t) = ap length h in omega (arith, e)); keeps = tt; rests = λ _. tt }
goes_on s t None h = record { on = λ _. tt; keeps = tt; rests = λ _. tt }
