-- Rows of a line, one character further on.
use Rattle.std.proofs.Common.{◌≡◌, ℕ, suc, ◌+◌, ◌-◌, ◌<◌, Bool, false, cond, List, [], ◌∷◌, ◌++◌, take, drop, refl, ap, sym, ◌∙◌, arith, append_assoc}
use Rattle.std.specs.Prelude.{min, max, nat_lt, ◌&&◌}
use Rattle.std.specs.List.{repeat}
use Rattle.std.proofs.Math.Seq.{drop-nil, take-nil}
use Rattle.std.proofs.lemmas.Bool.Decides.{nat_tests}
use Rattle.std.proofs.lemmas.List.{append-nil}
use Rattle.mad_characters.specs.Columns.{char_columns}
use Rattle.mad_plain.specs.Runs.{StyledChar, styled, said}
use Rattle.mad_plain.specs.Rows.{columns_of, is_inside, window, sign_if, one_if, goes_left, goes_right, cut_row}

-- ---- the part of a line

-- one more character is put, and those behind it are to come
pub taken_more : (count at : ℕ) (c : StyledChar) (old cs all shown new : List StyledChar) → at < count → old ≡ c ∷ cs → new ≡ shown ++ c ∷ [] → shown ++ take (count - at) old ≡ all → new ++ take (count - (at + 1)) cs ≡ all
taken_more count at c old cs all shown new h e n so =
    let more : count - at ≡ suc (count - (at + 1)) = omega arith in
    ap (λ (l : List StyledChar). l ++ take (count - (at + 1)) cs) n
    ∙ append_assoc shown (c ∷ []) (take (count - (at + 1)) cs)
    ∙ sym (ap (λ j. shown ++ take j (c ∷ cs)) more)
    ∙ sym (ap (λ (l : List StyledChar). shown ++ take (count - at) l) e)
    ∙ so

-- past one more character the same is left
pub left_more : (count at : ℕ) (c : StyledChar) (old cs all : List StyledChar) → at < count → old ≡ c ∷ cs → drop (count - at) old ≡ all → drop (count - (at + 1)) cs ≡ all
left_more count at c old cs all h e so =
    let more : count - at ≡ suc (count - (at + 1)) = omega arith in
    sym (ap (λ j. drop j (c ∷ cs)) more) ∙ sym (ap (λ (l : List StyledChar). drop (count - at) l) e) ∙ so

-- nothing is left
pub none_left : (count at : ℕ) (old new all : List StyledChar) → old ≡ [] → new ≡ [] → drop (count - at) old ≡ all → new ≡ all
none_left count at old new all e n so = n ∙ sym (drop-nil (count - at)) ∙ sym (ap (λ (l : List StyledChar). drop (count - at) l) e) ∙ so

-- where no character is left, all are put
pub none_taken : (count at : ℕ) (old all shown : List StyledChar) → old ≡ [] → shown ++ take (count - at) old ≡ all → shown ≡ all
none_taken count at old all shown e so = sym (append-nil shown) ∙ ap (λ (l : List StyledChar). shown ++ l) (sym (take-nil (count - at))) ∙ sym (ap (λ (l : List StyledChar). shown ++ take (count - at) l) e) ∙ so

-- ---- a window

part_past : (a b at w : ℕ) (c : StyledChar) → b < at → cond (is_inside a b at w) (c ∷ []) (repeat (min b (at + w) - max a at) (styled c.style 32 ∷ [])) ≡ []
part_past a b at w c h =
    let out : is_inside a b at w ≡ false = grind (arith, nat_tests, h) in
    let none : min b (at + w) - max a at ≡ 0 = omega arith in
    ap (λ t. cond t (c ∷ []) (repeat (min b (at + w) - max a at) (styled c.style 32 ∷ []))) out ∙ ap (λ k. repeat k (styled c.style 32 ∷ [])) none

-- behind its last column nothing is shown
pub window_past : (a b at : ℕ) (cs : List StyledChar) → b < at → window a b at cs ≡ []
window_past a b at [] h = refl
window_past a b at (c ∷ cs) h =
    let later : b < at + char_columns c.char = omega arith in
    ap (λ (l : List StyledChar). l ++ window a b (at + char_columns c.char) cs) (part_past a b at (char_columns c.char) c h) ∙ window_past a b (at + char_columns c.char) cs later

-- ---- a row with its signs

same_some : (t u k : ℕ) → 0 < k → min t k ≡ min u k → nat_lt 0 t ≡ nat_lt 0 u
same_some t u k h e = grind (arith, nat_tests, h, e)

same_past : (t u n : ℕ) → min t (n + 1) ≡ min u (n + 1) → nat_lt n t ≡ nat_lt n u
same_past t u n e = grind (arith, nat_tests, e)

same_left : (t u moved width : ℕ) → min t (moved + width + 1) ≡ min u (moved + width + 1) → goes_left t moved width ≡ goes_left u moved width
same_left t u moved width e = ap (λ b. nat_lt 0 moved && (b && nat_lt 1 width)) (same_some t u (moved + width + 1) (omega arith) e)

same_right : (t u moved width : ℕ) → min t (moved + width + 1) ≡ min u (moved + width + 1) → goes_right t moved width ≡ goes_right u moved width
same_right t u moved width e = ap (λ b. b && nat_lt 0 width) (same_past t u (moved + width) e)

signed : (left right : Bool) (from to : ℕ) (line s0 s1 s2 s3 : List StyledChar) → s0 ≡ [] → s1 ≡ s0 ++ sign_if left 60 → s2 ≡ s1 ++ window from to 0 line → s3 ≡ s2 ++ sign_if right 62
    → s3 ≡ sign_if left 60 ++ (window from to 0 line ++ sign_if right 62)
signed left right from to line s0 s1 s2 s3 h0 h1 h2 h3 =
    let front : s1 ≡ sign_if left 60 = h1 ∙ ap (λ l. l ++ sign_if left 60) h0 in
    h3 ∙ ap (λ l. l ++ sign_if right 62) (h2 ∙ ap (λ l. l ++ window from to 0 line) front) ∙ append_assoc (sign_if left 60) (window from to 0 line) (sign_if right 62)

-- a sign, a window and a sign are a cut row, where the line's columns are counted as far as matters
pub cut_is : (moved width t : ℕ) (line s0 s1 s2 s3 : List StyledChar) (left right : Bool) (from to : ℕ) → min t (moved + width + 1) ≡ min (columns_of (said line)) (moved + width + 1)
    → left ≡ goes_left t moved width → right ≡ goes_right t moved width → from ≡ moved + one_if left → to ≡ moved + width - one_if right
    → s0 ≡ [] → s1 ≡ s0 ++ sign_if left 60 → s2 ≡ s1 ++ window from to 0 line → s3 ≡ s2 ++ sign_if right 62
    → s3 ≡ cut_row moved width line
cut_is moved width t line s0 s1 s2 s3 left right from to e l r f u h0 h1 h2 h3 =
    let left_is : left ≡ goes_left (columns_of (said line)) moved width = l ∙ same_left t (columns_of (said line)) moved width e in
    let right_is : right ≡ goes_right (columns_of (said line)) moved width = r ∙ same_right t (columns_of (said line)) moved width e in
    signed left right from to line s0 s1 s2 s3 h0 h1 h2 h3
    ∙ ap (λ n. sign_if left 60 ++ (window n to 0 line ++ sign_if right 62)) f
    ∙ ap (λ n. sign_if left 60 ++ (window (moved + one_if left) n 0 line ++ sign_if right 62)) u
    ∙ ap (λ b. sign_if b 60 ++ (window (moved + one_if b) (moved + width - one_if right) 0 line ++ sign_if right 62)) left_is
    ∙ ap (λ b. sign_if (goes_left (columns_of (said line)) moved width) 60 ++ (window (moved + one_if (goes_left (columns_of (said line)) moved width)) (moved + width - one_if b) 0 line ++ sign_if b 62)) right_is
