-- A text and its lines say the same.
use Rattle.std.proofs.Common.{ℕ, ◌<◌, ◌≡◌, ◌==◌, List, [], ◌∷◌, ◌++◌, length, refl, ap, ◌∙◌, arith, append-nil, cond, true, false, Bool, not, ◌&&◌}
use Rattle.std.specs.Prelude.{All}
use Rattle.std.specs.Char.{IsScalar}
use Rattle.std.proofs.lemmas.List.Elements.{All-head, All-tail, All-cons, All-nil, All-append}
use Rattle.std.specs.List.{onto_first}
use Rattle.mad_edit_lines.specs.TextLines.{led_lines, text_of, lines, is_line_char, is_accepted, IsLineText, IsAcceptedChar}

-- a character that a line can have
abbrev pub IsLineChar : ℕ → Type 0
IsLineChar c = (is_line_char c ≡ true) × IsScalar c

-- where a denied test and another one both hold, the denied one doesn't
pub not_newline : (b r : Bool) → (not b && r) ≡ true → b ≡ false
not_newline true r h = cc
not_newline false r h = refl

accepted_part : (b r : Bool) → (not b && r) ≡ true → r ≡ true
accepted_part true r h = cc
accepted_part false r h = h

-- a line alone
lines_text : (l : List ℕ) → IsLineText l → lines l ≡ l ∷ []
lines_text [] h = refl
lines_text (c ∷ l) h =
    let other : (c == 10) ≡ false = not_newline (c == 10) (is_accepted c) (All-head IsLineChar c l h).0 in
    ap (λ b. cond b ([] ∷ lines l) (onto_first c (lines l))) other ∙ ap (onto_first c) (lines_text l (All-tail IsLineChar c l h))

-- a line and the text after its newline
lines_cut : (l t : List ℕ) → IsLineText l → lines (l ++ 10 ∷ t) ≡ l ∷ lines t
lines_cut [] t h = refl
lines_cut (c ∷ l) t h =
    let other : (c == 10) ≡ false = not_newline (c == 10) (is_accepted c) (All-head IsLineChar c l h).0 in
    ap (λ b. cond b ([] ∷ lines (l ++ 10 ∷ t)) (onto_first c (lines (l ++ 10 ∷ t)))) other ∙ ap (onto_first c) (lines_cut l t (All-tail IsLineChar c l h))

lines_next : (l : List ℕ) (ls : List (List ℕ)) → All IsLineText (l ∷ ls) → lines (l ++ led_lines ls) ≡ l ∷ ls
lines_next l [] h = ap lines (append-nil l) ∙ lines_text l (All-head IsLineText l [] h)
lines_next l (m ∷ ls) h =
    lines_cut l (m ++ led_lines ls) (All-head IsLineText l (m ∷ ls) h)
    ∙ ap (λ t. l ∷ t) (lines_next m ls (All-tail IsLineText l (m ∷ ls) h))

-- lines are the lines of their text
pub lines-text_of : (ls : List (List ℕ)) → 0 < length ls → All IsLineText ls → lines (text_of ls) ≡ ls
lines-text_of [] some h = absurd (omega arith)
lines-text_of (l ∷ ls) some h = lines_next l ls h

accepted_line : (l : List ℕ) → IsLineText l → All IsAcceptedChar l
accepted_line [] h = All-nil IsAcceptedChar
accepted_line (c ∷ l) h =
    All-cons IsAcceptedChar c l (accepted_part (c == 10) (is_accepted c) (All-head IsLineChar c l h).0, (All-head IsLineChar c l h).1) (accepted_line l (All-tail IsLineChar c l h))

accepted_led : (ls : List (List ℕ)) → All IsLineText ls → All IsAcceptedChar (led_lines ls)
accepted_led [] h = All-nil IsAcceptedChar
accepted_led (l ∷ ls) h =
    All-append IsAcceptedChar (10 ∷ l) (led_lines ls) (All-cons IsAcceptedChar 10 l (refl, refl) (accepted_line l (All-head IsLineText l ls h))) (accepted_led ls (All-tail IsLineText l ls h))

-- no character of the text is one that is left out
pub accepted_text : (ls : List (List ℕ)) → All IsLineText ls → All IsAcceptedChar (text_of ls)
accepted_text [] h = All-nil IsAcceptedChar
accepted_text (l ∷ ls) h = All-tail IsAcceptedChar 10 (l ++ led_lines ls) (accepted_led (l ∷ ls) h)
