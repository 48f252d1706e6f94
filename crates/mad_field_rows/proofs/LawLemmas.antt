-- A line that fits into its row.
use Rattle.std.proofs.Common.{◌≡◌, ℕ, ◌-◌, ◌+◌, ◌<◌, ◌==◌, Bool, true, false, cond, List, [], ◌∷◌, ◌++◌, refl, ap, ◌∙◌, arith}
use Rattle.std.proofs.lemmas.Bool.Decides.{nat_tests}
use Rattle.mad_edit_lines.specs.LineColumns.{char_width}
use Rattle.mad_field_rows.specs.declared.line_rows.RowChar.{RowChar}
use Rattle.mad_field_rows.specs.RowChars.{row_columns, ellipsis, does_fit, fitted, spaces_after, filled_row}
use Rattle.mad_field_rows.proofs.ColumnLemmas.{columns-cons}

fits_whole : (c : RowChar) (cs : List RowChar) (room : ℕ) → char_width c.c < room → does_fit c cs room ≡ true
fits_whole c [] room h = grind (arith, nat_tests)
fits_whole c (d ∷ cs) room h = grind (arith, nat_tests)

fitted_whole : (cs : List RowChar) (room : ℕ) → row_columns cs < room → fitted cs room ≡ cs
fitted_whole [] room h = refl
fitted_whole (c ∷ cs) room h =
    let all : row_columns (c ∷ cs) ≡ char_width c.c + row_columns cs = columns-cons c cs in
    let some : (room == 0) ≡ false = let lt : 0 < room = omega (arith, h) in grind (arith, nat_tests) in
    let rest : fitted cs (room - char_width c.c) ≡ cs = fitted_whole cs (room - char_width c.c) (omega (arith, all, h)) in
    let mark : List RowChar = record { c = ellipsis; marked = c.marked } ∷ [] in
    ap (λ b. cond b [] (cond (does_fit c cs room) (c ∷ fitted cs (room - char_width c.c)) mark)) some ∙ ap (λ b. cond b (c ∷ fitted cs (room - char_width c.c)) mark) (fits_whole c cs room (omega (arith, all, h))) ∙ ap (λ (xs : List RowChar). c ∷ xs) rest

-- a row that fits is its characters, and spaces
pub whole_row : (cs : List RowChar) (e : Bool) (room : ℕ) → row_columns cs < room → filled_row cs e room ≡ cs ++ spaces_after e (room - row_columns cs)
whole_row cs e room h = ap (λ (xs : List RowChar). xs ++ spaces_after e (room - row_columns xs)) (fitted_whole cs room h)
