-- The columns of characters in a row.
use Rattle.std.proofs.Common.{◌≡◌, ℕ, zero, suc, ◌+◌, ◌-◌, ◌<◌, ◌≤◌, ◌==◌, Bool, true, false, cond, List, [], ◌∷◌, ◌++◌, replicate, nat_lt, refl, ap, ◌∙◌, arith}
use Rattle.std.proofs.lemmas.Bool.Decides.{nat_tests}
use Rattle.std.proofs.lemmas.List.Sums.{sum_by-cons}
use Rattle.mad_characters.proofs.CharColumns.{char_columns-ascii}
use Rattle.mad_edit_lines.specs.LineColumns.{char_width}
use Rattle.mad_field_rows.specs.declared.line_rows.RowChar.{RowChar}
use Rattle.mad_field_rows.specs.RowChars.{row_columns, ellipsis, space, does_fit, fitted, spaces_after, filled_row}
use Rattle.mad_field_rows.proofs.Choices.{by_bool}
use Rattle.mad_field_rows.proofs.WidthLemmas.{ellipsis_column}

-- the columns of a row are those of its first character and of the others
pub columns-cons : (c : RowChar) (cs : List RowChar) → row_columns (c ∷ cs) ≡ char_width c.c + row_columns cs
columns-cons c cs = sum_by-cons (λ (x : RowChar). char_width x.c) c cs

columns-append : (cs ds : List RowChar) → row_columns (cs ++ ds) ≡ row_columns cs + row_columns ds
columns-append [] ds = omega arith
columns-append (c ∷ cs) ds = let rest : row_columns (cs ++ ds) ≡ row_columns cs + row_columns ds = columns-append cs ds in omega (arith, columns-cons c (cs ++ ds), columns-cons c cs, rest)

-- ---- a row fills its columns

space_column : char_width 32 ≡ 1
space_column = char_columns-ascii 32 (omega arith) (omega arith)

blanks_columns : (n : ℕ) → row_columns (replicate n (record { c = space; marked = false })) ≡ n
blanks_columns zero = refl
blanks_columns (suc n) =
    let rest : row_columns (replicate n (record { c = space; marked = false })) ≡ n = blanks_columns n in
    let first : row_columns (record { c = space; marked = false } ∷ replicate n (record { c = space; marked = false })) ≡ char_width 32 + row_columns (replicate n (record { c = space; marked = false })) = columns-cons (record { c = space; marked = false }) (replicate n (record { c = space; marked = false })) in
    omega (arith, rest, first, space_column)

spaces_columns : (e : Bool) (n : ℕ) → row_columns (spaces_after e n) ≡ n
spaces_columns false n = blanks_columns n
spaces_columns true zero = refl
spaces_columns true (suc n) =
    let x : RowChar = record { c = space; marked = true } in
    let test : nat_lt 0 (suc n) ≡ true = let lt : 0 < suc n = omega arith in grind (arith, nat_tests) in
    let first : row_columns (x ∷ replicate (suc n - 1) (record { c = space; marked = false })) ≡ char_width 32 + row_columns (replicate (suc n - 1) (record { c = space; marked = false })) = columns-cons x (replicate (suc n - 1) (record { c = space; marked = false })) in
    ap (λ b. row_columns (cond b (x ∷ replicate (suc n - 1) (record { c = space; marked = false })) (replicate (suc n) (record { c = space; marked = false })))) test
    ∙ omega (arith, first, blanks_columns (suc n - 1), space_column)

fit_within : (c : RowChar) (cs : List RowChar) (room : ℕ) → does_fit c cs room ≡ true → char_width c.c ≤ room
fit_within c [] room h = grind (arith, nat_tests)
fit_within c (d ∷ cs) room h = grind (arith, nat_tests)

fitted_within : (cs : List RowChar) (room : ℕ) → row_columns (fitted cs room) ≤ room
fitted_within [] room = omega arith
fitted_within (c ∷ cs) room =
    let mark : RowChar = record { c = ellipsis; marked = c.marked } in
    let rest : List RowChar = fitted cs (room - char_width c.c) in
    let later : row_columns rest ≤ room - char_width c.c = fitted_within cs (room - char_width c.c) in
    by_bool (λ t. (room == 0) ≡ t → row_columns (cond t [] (cond (does_fit c cs room) (c ∷ rest) (mark ∷ []))) ≤ room) (room == 0)
    (λ on is. omega arith)
    (λ off is.
    let some : 0 < room = grind (arith, nat_tests) in
    by_bool (λ t. does_fit c cs room ≡ t → row_columns (cond t (c ∷ rest) (mark ∷ [])) ≤ room) (does_fit c cs room)
    (λ yes' fits. let w : char_width c.c ≤ room = fit_within c cs room fits in omega (arith, w, later, columns-cons c rest))
    (λ no' fits. let one : row_columns (mark ∷ []) ≡ char_width 8230 + row_columns [] = columns-cons mark [] in omega (arith, one, ellipsis_column, some)) refl)
    refl

-- a row that is filled up has all columns of its room
pub filled_columns : (cs : List RowChar) (e : Bool) (room : ℕ) → row_columns (filled_row cs e room) ≡ room
filled_columns cs e room =
    let left : ℕ = room - row_columns (fitted cs room) in
    omega (arith, columns-append (fitted cs room) (spaces_after e left), spaces_columns e left, fitted_within cs room)
