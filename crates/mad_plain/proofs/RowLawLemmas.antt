-- Rows of a line, by the laws.
use Rattle.std.proofs.Common.{◌≡◌, ◌<◌, ℕ, zero, suc, ◌+◌, ◌-◌, ◌≤◌, Bool, true, false, cond, ◌&&◌, List, [], ◌∷◌, ◌++◌, length, take, drop, refl, ap, sym, ◌∙◌, subst, arith, append_assoc, length-append, length-drop}
use Rattle.std.specs.Prelude.{nat_lt, nat_le, min, max}
use Rattle.std.specs.List.{repeat, flat_map, AllByRecursion}
use Rattle.std.proofs.Math.Seq.{take-append_seam}
use Rattle.std.proofs.lemmas.Bool.Decides.{nat_tests}
use Rattle.std.proofs.lemmas.List.{append-nil, map-append, take-append-drop, take_all}
use Rattle.mad_characters.specs.Columns.{char_columns}
use Rattle.mad_characters.proofs.CharColumns.{char_columns-ascii}
use Rattle.mad_plain.specs.declared.pens.Pen.{Pen}
use Rattle.mad_plain.specs.Runs.{StyledChar, styled, said}
use Rattle.mad_plain.specs.Rows.{columns_of, ends_from, rows_by, wrapped, is_inside, part_shown, window, sign_if, one_if, goes_left, goes_right, cut_row}
use Rattle.mad_plain.specs.Laws.{FitsOrIsOne, BeginsLate, AreFull}

-- ---- the columns of texts

columns_append : (a b : List ℕ) → columns_of (a ++ b) ≡ columns_of a + columns_of b
columns_append [] b = omega arith
columns_append (c ∷ cs) b = omega (arith, columns_append cs b)

said_columns : (a b : List StyledChar) → columns_of (said (a ++ b)) ≡ columns_of (said a) + columns_of (said b)
said_columns a b = ap columns_of (map-append (λ (c : StyledChar). c.char) a b) ∙ columns_append (said a) (said b)

blank_columns : char_columns 32 ≡ 1
blank_columns = char_columns-ascii 32 (omega arith) (omega arith)

blanks_columns : (n : ℕ) (style : Pen) → columns_of (said (repeat n (styled style 32 ∷ []))) ≡ n
blanks_columns zero style = refl
blanks_columns (suc n) style = omega (arith, blanks_columns n style, blank_columns)

said_length : (cs : List StyledChar) → length (said cs) ≡ length cs
said_length [] = refl
said_length (c ∷ cs) = omega (arith, said_length cs)

-- ---- wrapped rows are the line

abbrev Whole : (s : ℕ) → List ℕ → List StyledChar → Type 0
Whole s ends line = flat_map (λ row. row) (rows_by s ends line) ≡ line

whole_by : (width left s at w : ℕ) (cs : List ℕ) (line : List StyledChar) (fits : Bool) → s ≤ at → length line ≡ at - s + suc (length cs)
    → ((l t : ℕ) (more : List StyledChar) (h : s ≤ at + 1) → Whole s (ends_from width (left - w) (at + 1) cs) line)
    → Whole at (ends_from width (width - w) (at + 1) cs) (drop (at - s) line)
    → Whole s (cond fits (ends_from width (left - w) (at + 1) cs) (at ∷ ends_from width (width - w) (at + 1) cs)) line
whole_by width left s at w cs line true low len same other = same 0 0 [] (omega (arith, low))
whole_by width left s at w cs line false low len same other = ap (λ (l : List StyledChar). take (at - s) line ++ l) other ∙ take-append-drop (at - s) line

whole_from : (width left s at : ℕ) (cs : List ℕ) (line : List StyledChar) → s ≤ at → length line ≡ at - s + length cs → Whole s (ends_from width left at cs) line
whole_from width left s at [] line low len = append-nil (take (at - s) line) ∙ take_all (at - s) line (omega (arith, len))
whole_from width left s at (c ∷ cs) line low len =
    whole_by width left s at (char_columns c) cs line (nat_le (char_columns c) left) low (len ∙ omega arith)
    (λ l t more h. whole_from width (left - char_columns c) s (at + 1) cs line h (omega (arith, len, low)))
    (whole_from width (width - char_columns c) at (at + 1) cs (drop (at - s) line) (omega arith) (omega (arith, length-drop (at - s) line, len, low)))

-- wrapped rows, one after the other, are the line
pub rows_joined : (width : ℕ) (line : List StyledChar) → flat_map (λ row. row) (wrapped width line) ≡ line
rows_joined width [] = refl
rows_joined width (c ∷ cs) = whole_from width (width - char_columns c.char) 0 1 (said cs) (c ∷ cs) (omega arith) (omega (arith, said_length cs))

-- ---- wrapped rows fit

abbrev Fit : ℕ → List (List StyledChar) → Type 0
Fit width rows = AllByRecursion (FitsOrIsOne width) rows

first_row : (s at : ℕ) (x : StyledChar) (front rest : List StyledChar) → at ≡ s + suc (length front) → take (at - s) (x ∷ (front ++ rest)) ≡ x ∷ front
first_row s at x front rest e =
    let n : at - s ≡ suc (length front) = omega arith in
    ap (λ k. take k (x ∷ (front ++ rest))) n ∙ ap (λ (l : List StyledChar). x ∷ l) (take-append_seam front rest)

drop_seam : (front rest : List StyledChar) → drop (length front) (front ++ rest) ≡ rest
drop_seam [] rest = refl
drop_seam (x ∷ front) rest = drop_seam front rest

other_rows : (s at : ℕ) (x : StyledChar) (front rest : List StyledChar) → at ≡ s + suc (length front) → drop (at - s) (x ∷ (front ++ rest)) ≡ rest
other_rows s at x front rest e =
    let n : at - s ≡ suc (length front) = omega arith in
    ap (λ k. drop k (x ∷ (front ++ rest))) n ∙ drop_seam front rest

row_fits : (width left : ℕ) (x : StyledChar) (front : List StyledChar) → columns_of (said (x ∷ front)) + left ≤ max width (char_columns x.char) → FitsOrIsOne width (x ∷ front)
row_fits width left x front h = omega (arith, h)

fit_by : (width left s at : ℕ) (x c : StyledChar) (front rest : List StyledChar) (fits : Bool) → nat_le (char_columns c.char) left ≡ fits → at ≡ s + suc (length front)
    → columns_of (said (x ∷ front)) + left ≤ max width (char_columns x.char)
    → ((h : columns_of (said (x ∷ (front ++ c ∷ []))) + (left - char_columns c.char) ≤ max width (char_columns x.char)) → Fit width (rows_by s (ends_from width (left - char_columns c.char) (at + 1) (said rest)) (x ∷ ((front ++ c ∷ []) ++ rest))))
    → Fit width (rows_by at (ends_from width (width - char_columns c.char) (at + 1) (said rest)) (c ∷ rest))
    → Fit width (rows_by s (cond fits (ends_from width (left - char_columns c.char) (at + 1) (said rest)) (at ∷ ends_from width (width - char_columns c.char) (at + 1) (said rest))) (x ∷ (front ++ c ∷ rest)))
fit_by width left s at x c front rest true t e h same other =
    let low : char_columns c.char ≤ left = grind (arith, nat_tests, t) in
    let more : columns_of (said (x ∷ (front ++ c ∷ []))) + (left - char_columns c.char) ≤ max width (char_columns x.char) = omega (arith, said_columns front (c ∷ []), h, low) in
    subst (λ (l : List StyledChar). Fit width (rows_by s (ends_from width (left - char_columns c.char) (at + 1) (said rest)) (x ∷ l))) (append_assoc front (c ∷ []) rest) (same more)
fit_by width left s at x c front rest false t e h same other = (
  subst (FitsOrIsOne width) (sym (first_row s at x front (c ∷ rest) e)) (row_fits width left x front h),
  subst (λ (l : List StyledChar). Fit width (rows_by at (ends_from width (width - char_columns c.char) (at + 1) (said rest)) l)) (sym (other_rows s at x front (c ∷ rest) e)) other,
)

fit_from : (width left s at : ℕ) (x : StyledChar) (front rest : List StyledChar) → at ≡ s + suc (length front) → columns_of (said (x ∷ front)) + left ≤ max width (char_columns x.char)
    → Fit width (rows_by s (ends_from width left at (said rest)) (x ∷ (front ++ rest)))
fit_from width left s at x front [] e h = (subst (FitsOrIsOne width) (sym (first_row s at x front [] e)) (row_fits width left x front h), tt)
fit_from width left s at x front (c ∷ rest) e h =
    fit_by width left s at x c front rest (nat_le (char_columns c.char) left) refl e h
    (λ k. fit_from width (left - char_columns c.char) s (at + 1) x (front ++ c ∷ []) rest (omega (arith, e, length-append front (c ∷ []))) k)
    (fit_from width (width - char_columns c.char) at (at + 1) c [] rest (omega arith) (omega arith))

-- no wrapped row is wider than the width, or than its first character
pub rows_fit : (width : ℕ) (line : List StyledChar) → AllByRecursion (FitsOrIsOne width) (wrapped width line)
rows_fit width [] = (tt, tt)
rows_fit width (c ∷ cs) = fit_from width (width - char_columns c.char) 0 1 c [] cs (omega arith) (omega arith)

-- ---- cut rows fit

part_by : (a b at w : ℕ) (c : StyledChar) (inside : Bool) → is_inside a b at w ≡ inside → char_columns c.char ≡ w
    → columns_of (said (cond inside (c ∷ []) (repeat (min b (at + w) - max a at) (styled c.style 32 ∷ [])))) ≤ min b (at + w) - max a at
part_by a b at w c true t e = let h : w ≤ min b (at + w) - max a at = grind (arith, nat_tests, t) in omega (arith, h, e)
part_by a b at w c false t e = omega (arith, blanks_columns (min b (at + w) - max a at) c.style)

sum_of : (a b at w p r : ℕ) → p ≤ min b (at + w) - max a at → r ≤ b - max a (at + w) → p + r ≤ b - max a at
sum_of a b at w p r h k = omega (arith, h, k)

-- a window shows no more columns than it has
pub window_columns : (a b at : ℕ) (cs : List StyledChar) → columns_of (said (window a b at cs)) ≤ b - max a at
window_columns a b at [] = omega arith
window_columns a b at (c ∷ cs) =
    let w = char_columns c.char in
    let part = part_by a b at w c (is_inside a b at w) refl refl in
    let rest = window_columns a b (at + w) cs in
    let both = sum_of a b at w (columns_of (said (part_shown a b at c))) (columns_of (said (window a b (at + w) cs))) part rest in
    omega (arith, said_columns (part_shown a b at c) (window a b (at + w) cs), both)

sign_columns : (there : Bool) (c : ℕ) → char_columns c ≡ 1 → columns_of (said (sign_if there c)) ≡ one_if there
sign_columns true c h = omega (arith, h)
sign_columns false c h = refl

room_by : (moved total width : ℕ) (m t w1 r w0 : Bool) → nat_lt 1 width ≡ w1 → nat_lt 0 width ≡ w0 → one_if (m && (t && w1)) + one_if (r && w0) ≤ width
room_by moved total width m t w1 r w0 h k = grind (arith, nat_tests, h, k)

-- a cut row is no wider than the screen
pub cut_fits : (moved width : ℕ) (line : List StyledChar) → columns_of (said (cut_row moved width line)) ≤ width
cut_fits moved width line =
    let total = columns_of (said line) in
    let left = goes_left total moved width in
    let right = goes_right total moved width in
    let shown = window (moved + one_if left) (moved + width - one_if right) 0 line in
    let room : one_if left + one_if right ≤ width = room_by moved total width (nat_lt 0 moved) (nat_lt 0 total) (nat_lt 1 width) (nat_lt (moved + width) total) (nat_lt 0 width) refl refl in
    omega (
      arith,
      said_columns (sign_if left 60) (shown ++ sign_if right 62),
      said_columns shown (sign_if right 62),
      window_columns (moved + one_if left) (moved + width - one_if right) 0 line,
      sign_columns left 60 (char_columns-ascii 60 (omega arith) (omega arith)),
      sign_columns right 62 (char_columns-ascii 62 (omega arith) (omega arith)),
      room,
    )

-- ---- a line that fits

whole_part : (b at w : ℕ) (c : StyledChar) → at + w ≤ b → cond (is_inside 0 b at w) (c ∷ []) (repeat (min b (at + w) - max 0 at) (styled c.style 32 ∷ [])) ≡ c ∷ []
whole_part b at w c h =
    let inside : is_inside 0 b at w ≡ true = grind (arith, nat_tests, h) in
    ap (λ t. cond t (c ∷ []) (repeat (min b (at + w) - max 0 at) (styled c.style 32 ∷ []))) inside

window_whole : (b at : ℕ) (cs : List StyledChar) → at + columns_of (said cs) ≤ b → window 0 b at cs ≡ cs
window_whole b at [] h = refl
window_whole b at (c ∷ cs) h =
    ap (λ (l : List StyledChar). l ++ window 0 b (at + char_columns c.char) cs) (whole_part b at (char_columns c.char) c (omega (arith, h)))
    ∙ ap (λ (l : List StyledChar). c ∷ l) (window_whole b (at + char_columns c.char) cs (omega (arith, h)))

-- a line that fits, and isn't moved, is shown as it is
pub cut_whole : (width : ℕ) (line : List StyledChar) → columns_of (said line) ≤ width → cut_row 0 width line ≡ line
cut_whole width line h =
    let none : nat_lt (0 + width) (columns_of (said line)) ≡ false = grind (arith, nat_tests, h) in
    let all : 0 + width - 0 ≡ width = omega arith in
    ap (λ b. window 0 (0 + width - one_if (b && nat_lt 0 width)) 0 line ++ sign_if (b && nat_lt 0 width) 62) none
    ∙ append-nil (window 0 (0 + width - 0) 0 line)
    ∙ ap (λ n. window 0 n 0 line) all
    ∙ window_whole width 0 line (omega (arith, h))

-- ---- wrapped rows are full

-- a row and those behind it
full_row : (width used : ℕ) (row is : List StyledChar) (rows : List (List StyledChar)) → row ≡ is → BeginsLate width used is → AreFull width (columns_of (said is)) rows → AreFull width used (row ∷ rows)
full_row width used row is rows e h k = (subst (BeginsLate width used) (sym e) h, subst (λ (l : List StyledChar). AreFull width (columns_of (said l)) rows) (sym e) k)

full_by : (width used left s at : ℕ) (x c : StyledChar) (front rest : List StyledChar) (fits : Bool) → nat_le (char_columns c.char) left ≡ fits → at ≡ s + suc (length front)
    → width < used + char_columns x.char → width ≤ columns_of (said (x ∷ front)) + left
    → ((h : width ≤ columns_of (said (x ∷ (front ++ c ∷ []))) + (left - char_columns c.char)) → AreFull width used (rows_by s (ends_from width (left - char_columns c.char) (at + 1) (said rest)) (x ∷ ((front ++ c ∷ []) ++ rest))))
    → ((h : width < columns_of (said (x ∷ front)) + char_columns c.char) → AreFull width (columns_of (said (x ∷ front))) (rows_by at (ends_from width (width - char_columns c.char) (at + 1) (said rest)) (c ∷ rest)))
    → AreFull width used (rows_by s (cond fits (ends_from width (left - char_columns c.char) (at + 1) (said rest)) (at ∷ ends_from width (width - char_columns c.char) (at + 1) (said rest))) (x ∷ (front ++ c ∷ rest)))
full_by width used left s at x c front rest true t e late h same other =
    let low : char_columns c.char ≤ left = grind (arith, nat_tests, t) in
    let more : width ≤ columns_of (said (x ∷ (front ++ c ∷ []))) + (left - char_columns c.char) = omega (arith, said_columns front (c ∷ []), h, low) in
    subst (λ (l : List StyledChar). AreFull width used (rows_by s (ends_from width (left - char_columns c.char) (at + 1) (said rest)) (x ∷ l))) (append_assoc front (c ∷ []) rest) (same more)
full_by width used left s at x c front rest false t e late h same other =
    let high : left < char_columns c.char = grind (arith, nat_tests, t) in
    full_row width used (take (at - s) (x ∷ (front ++ c ∷ rest))) (x ∷ front) (rows_by at (ends_from width (width - char_columns c.char) (at + 1) (said rest)) (drop (at - s) (x ∷ (front ++ c ∷ rest)))) (first_row s at x front (c ∷ rest) e) late
    (subst (λ (l : List StyledChar). AreFull width (columns_of (said (x ∷ front))) (rows_by at (ends_from width (width - char_columns c.char) (at + 1) (said rest)) l)) (sym (other_rows s at x front (c ∷ rest) e)) (other (omega (arith, h, high))))

full_from : (width used left s at : ℕ) (x : StyledChar) (front rest : List StyledChar) → at ≡ s + suc (length front) → width < used + char_columns x.char → width ≤ columns_of (said (x ∷ front)) + left
    → AreFull width used (rows_by s (ends_from width left at (said rest)) (x ∷ (front ++ rest)))
full_from width used left s at x front [] e late h = full_row width used (take (at - s) (x ∷ (front ++ []))) (x ∷ front) [] (first_row s at x front [] e) late tt
full_from width used left s at x front (c ∷ rest) e late h =
    full_by width used left s at x c front rest (nat_le (char_columns c.char) left) refl e late h
    (λ k. full_from width used (left - char_columns c.char) s (at + 1) x (front ++ c ∷ []) rest (omega (arith, e, length-append front (c ∷ []))) late k)
    (λ k. full_from width (columns_of (said (x ∷ front))) (width - char_columns c.char) at (at + 1) c [] rest (omega arith) k (omega arith))

-- each wrapped row begins where the one before it has no room
pub rows_full : (width : ℕ) (line : List StyledChar) → AreFull width (width + 1) (wrapped width line)
rows_full width [] = (tt, tt)
rows_full width (c ∷ cs) = full_from width (width + 1) (width - char_columns c.char) 0 1 c [] cs (omega arith) (omega arith) (omega arith)
