-- A line in its row, one character after another.
use Rattle.std.proofs.Common.{◌≡◌, ℕ, suc, ◌+◌, ◌-◌, ◌<◌, ◌≤◌, ◌==◌, Bool, true, false, cond, List, [], ◌∷◌, ◌++◌, length, drop, replicate, length-drop, get_or, nat_lt, nat_le, refl, ap, sym, ◌∙◌, arith}
use Rattle.std.specs.Prelude.{◌&&◌, if◌then◌else◌}
use Rattle.std.proofs.lemmas.Bool.Decides.{nat_tests}
use Rattle.std.proofs.lemmas.List.{drop_more, drop_all}
use Rattle.mad_edit_lines.specs.LineColumns.{char_width}
use Rattle.mad_field_rows.specs.declared.line_rows.RowChar.{RowChar}
use Rattle.mad_field_rows.specs.RowChars.{row_columns, ellipsis, space, does_fit, fitted, spaces_after, filled_row}
use Rattle.mad_field_rows.specs.LineRows.{marked_between, shown_at}
use Rattle.mad_field_rows.proofs.ColumnLemmas.{columns-cons}

some_room : (room : ℕ) → 0 < room → (room == 0) ≡ false
some_room room h = grind (arith, nat_tests)

-- no room
pub filled_none : (cs : List RowChar) (e : Bool) → filled_row cs e 0 ≡ []
filled_none [] true = refl
filled_none [] false = refl
filled_none (c ∷ cs) true = refl
filled_none (c ∷ cs) false = refl

-- the next one fits
pub filled_fits : (c : RowChar) (cs : List RowChar) (e : Bool) (room : ℕ) → 0 < room → does_fit c cs room ≡ true → filled_row (c ∷ cs) e room ≡ c ∷ filled_row cs e (room - char_width c.c)
filled_fits c cs e room some fits =
    let rest : List RowChar = fitted cs (room - char_width c.c) in
    let hidden : List RowChar = record { c = ellipsis; marked = c.marked } ∷ [] in
    let first : fitted (c ∷ cs) room ≡ c ∷ rest = ap (λ b. cond b [] (cond (does_fit c cs room) (c ∷ rest) hidden)) (some_room room some) ∙ ap (λ b. cond b (c ∷ rest) hidden) fits in
    let left : room - row_columns (c ∷ rest) ≡ (room - char_width c.c) - row_columns rest = let e' = columns-cons c rest in omega (arith, e') in
    ap (λ (xs : List RowChar). xs ++ spaces_after e (room - row_columns xs)) first ∙ ap (λ n. c ∷ (rest ++ spaces_after e n)) left

-- it doesn't
pub filled_hidden : (c : RowChar) (cs : List RowChar) (e : Bool) (room : ℕ) → 0 < room → does_fit c cs room ≡ false
    → filled_row (c ∷ cs) e room ≡ record { c = ellipsis; marked = c.marked } ∷ filled_row [] e (room - char_width ellipsis)
filled_hidden c cs e room some hides =
    let mark : RowChar = record { c = ellipsis; marked = c.marked } in
    let rest : List RowChar = c ∷ fitted cs (room - char_width c.c) in
    let first : fitted (c ∷ cs) room ≡ mark ∷ [] = ap (λ b. cond b [] (cond (does_fit c cs room) rest (mark ∷ []))) (some_room room some) ∙ ap (λ b. cond b rest (mark ∷ [])) hides in
    let left : room - row_columns (mark ∷ []) ≡ (room - char_width ellipsis) - 0 = let e' = columns-cons mark [] in omega (arith, e') in
    ap (λ (xs : List RowChar). xs ++ spaces_after e (room - row_columns xs)) first ∙ ap (λ n. mark ∷ spaces_after e n) left

-- the next space
spaces_next : (e : Bool) (n : ℕ) → spaces_after e (suc n) ≡ record { c = space; marked = e } ∷ spaces_after false n
spaces_next true n =
    let less : suc n - 1 ≡ n = omega arith in
    let test : nat_lt 0 (suc n) ≡ true = let lt : 0 < suc n = omega arith in grind (arith, nat_tests) in
    let blanks : List RowChar = replicate (suc n) (record { c = space; marked = false }) in
    ap (λ b. cond b (record { c = space; marked = true } ∷ replicate (suc n - 1) (record { c = space; marked = false })) blanks) test
    ∙ ap (λ k. let x : RowChar = record { c = space; marked = true } in x ∷ replicate k (record { c = space; marked = false })) less
spaces_next false n = refl

-- past the characters a row is filled up by spaces
pub filled_space : (e : Bool) (room : ℕ) → 0 < room → filled_row [] e room ≡ record { c = space; marked = e } ∷ filled_row [] false (room - 1)
filled_space e room some =
    let more : room ≡ suc (room - 1) = omega arith in
    let zero_less : (n : ℕ) → n - 0 ≡ n = λ n. omega arith in
    ap (spaces_after e) (zero_less room ∙ more) ∙ spaces_next e (room - 1) ∙ ap (λ n. let x : RowChar = record { c = space; marked = e } in x ∷ spaces_after false n) (sym (zero_less (room - 1)))

-- ---- of a line's characters

length-marked : (password : Bool) (a b x : ℕ) (cs : List ℕ) → length (marked_between password a b x cs) ≡ length cs
length-marked password a b x [] = refl
length-marked password a b x (c ∷ cs) = ap suc (length-marked password a b (x + 1) cs)

-- whether a character fits: the last one may take the last column
pub fits_test : (c : RowChar) (cs : List RowChar) (room : ℕ) (last : Bool) → last ≡ (length cs == 0) → does_fit c cs room ≡ (if last then nat_le (char_width c.c) room else nat_lt (char_width c.c) room)
fits_test c [] room last is = sym (ap (λ b. cond b (nat_le (char_width c.c) room) (nat_lt (char_width c.c) room)) is)
fits_test c (d ∷ cs) room last is =
    let no : (length (d ∷ cs) == 0) ≡ false = grind (arith, nat_tests) in
    sym (ap (λ b. cond b (nat_le (char_width c.c) room) (nat_lt (char_width c.c) room)) (is ∙ no))

-- the characters that are left, with the next one
pub marked_next : (password : Bool) (a b x : ℕ) (line : List ℕ) → x < length line
    → marked_between password a b x (drop x line) ≡ record { c = shown_at password (get_or line x 0); marked = nat_le a x && nat_lt x b } ∷ marked_between password a b (x + 1) (drop (x + 1) line)
marked_next password a b x line inside = ap (marked_between password a b x) (drop_more line x 0 inside)

-- ---- steps

-- a character by its fields
pub row_char_is : (r : RowChar) (c : ℕ) (marked : Bool) → r.c ≡ c → r.marked ≡ marked → r ≡ record { c = c; marked = marked }
row_char_is r c marked p q = ap (λ (n : ℕ). let x : RowChar = record { c = n; marked = r.marked } in x) p ∙ ap (λ (m : Bool). let x : RowChar = record { c = c; marked = m } in x) q

is_last : (password : Bool) (a b x : ℕ) (line : List ℕ) → x < length line → (x + 1 == length line) ≡ (length (marked_between password a b (x + 1) (drop (x + 1) line)) == 0)
is_last password a b x line inside =
    let count : length (marked_between password a b (x + 1) (drop (x + 1) line)) ≡ length line - (x + 1) = length-marked password a b (x + 1) (drop (x + 1) line) ∙ length-drop (x + 1) line in
    ap (λ b'. b') (grind (arith, nat_tests)) ∙ sym (ap (λ n. n == 0) count)

does_fit_is : (password : Bool) (a b x room width : ℕ) (line : List ℕ) (r : RowChar) (last fits : Bool) → x < length line → width ≡ char_width r.c → last ≡ (x + 1 == length line)
    → fits ≡ (if last then nat_le width room else nat_lt width room) → does_fit r (marked_between password a b (x + 1) (drop (x + 1) line)) room ≡ fits
does_fit_is password a b x room width line r last fits inside wide is fit =
    fits_test r (marked_between password a b (x + 1) (drop (x + 1) line)) room last (is ∙ is_last password a b x line inside)
    ∙ sym (ap (λ n. if last then nat_le n room else nat_lt n room) wide) ∙ sym fit

-- a character that fits
pub step_fits : (password : Bool) (a b x room width : ℕ) (line : List ℕ) (e : Bool) (r : RowChar) (last fits : Bool) → x < length line → 0 < room → r.c ≡ shown_at password (get_or line x 0) → r.marked ≡ (nat_le a x && nat_lt x b)
    → width ≡ char_width r.c → last ≡ (x + 1 == length line) → fits ≡ (if last then nat_le width room else nat_lt width room) → fits ≡ true
    → filled_row (marked_between password a b x (drop x line)) e room ≡ r ∷ filled_row (marked_between password a b (x + 1) (drop (x + 1) line)) e (room - width)
step_fits password a b x room width line e r last fits inside some char marked wide is fit does =
    let rest : List RowChar = marked_between password a b (x + 1) (drop (x + 1) line) in
    let whole : marked_between password a b x (drop x line) ≡ r ∷ rest = marked_next password a b x line inside ∙ ap (λ (y : RowChar). y ∷ rest) (sym (row_char_is r _ _ char marked)) in
    ap (λ (xs : List RowChar). filled_row xs e room) whole ∙ filled_fits r rest e room some (does_fit_is password a b x room width line r last fits inside wide is fit ∙ does)
    ∙ ap (λ n. r ∷ filled_row rest e (room - n)) (sym wide)

-- a character that doesn't fit: an ellipsis at its first column, and nothing of what follows
pub step_hidden : (password : Bool) (a b x room width : ℕ) (line : List ℕ) (e : Bool) (r : RowChar) (last fits : Bool) → x < length line → 0 < room → r.c ≡ shown_at password (get_or line x 0) → r.marked ≡ (nat_le a x && nat_lt x b)
    → width ≡ char_width r.c → last ≡ (x + 1 == length line) → fits ≡ (if last then nat_le width room else nat_lt width room) → fits ≡ false
    → filled_row (marked_between password a b x (drop x line)) e room
    ≡ record { c = ellipsis; marked = r.marked } ∷ filled_row (marked_between password a b (length line) (drop (length line) line)) e (room - char_width ellipsis)
step_hidden password a b x room width line e r last fits inside some char marked wide is fit hides =
    let rest : List RowChar = marked_between password a b (x + 1) (drop (x + 1) line) in
    let mark : RowChar = record { c = ellipsis; marked = r.marked } in
    let whole : marked_between password a b x (drop x line) ≡ r ∷ rest = marked_next password a b x line inside ∙ ap (λ (y : RowChar). y ∷ rest) (sym (row_char_is r _ _ char marked)) in
    ap (λ (xs : List RowChar). filled_row xs e room) whole ∙ filled_hidden r rest e room some (does_fit_is password a b x room width line r last fits inside wide is fit ∙ hides)
    ∙ ap (λ cs. mark ∷ filled_row (marked_between password a b (length line) cs) e (room - char_width ellipsis)) (sym (drop_all (length line) line (omega arith)))

-- a space past the line's end
pub step_space : (password : Bool) (a b x room : ℕ) (line : List ℕ) (e : Bool) → length line ≤ x → 0 < room
    → filled_row (marked_between password a b x (drop x line)) e room ≡ record { c = space; marked = e } ∷ filled_row (marked_between password a b x (drop x line)) false (room - 1)
step_space password a b x room line e past some =
    let none : drop x line ≡ [] = drop_all x line past in
    ap (λ cs. filled_row (marked_between password a b x cs) e room) none ∙ filled_space e room some
    ∙ ap (λ cs. let y : RowChar = record { c = space; marked = e } in y ∷ filled_row (marked_between password a b x cs) false (room - 1)) (sym none)
