-- What is in front of a line: three spaces at most, or four columns.
use Rattle.std.proofs.Common.{◌≡◌, ℕ, zero, suc, ◌<◌, Bool, true, false, ◌==◌, List, [], ◌∷◌, ◌++◌, replicate, refl, sym, ap, subst, ◌∙◌, arith}
use Rattle.std.proofs.lemmas.Bool.{eqb-true, or_from, or_parts}
use Rattle.markdown_marks.specs.Remaining.{whole, one_column, take_columns, columns_in_front}
use Rattle.markdown_sign_laws.specs.Words.{is_space_or_tab}
use Rattle.markdown_sign_laws.proofs.RunLemmas.{begins}

-- how bytes begin
data Beginning (bytes : List ℕ) : Type 0 where
  space : (others : List ℕ) → bytes ≡ 32 ∷ others → Beginning bytes
  tab : (others : List ℕ) → bytes ≡ 9 ∷ others → Beginning bytes
  other : begins is_space_or_tab bytes ≡ false → Beginning bytes

beginning_by : (p q : Bool) (b : ℕ) (bs : List ℕ) → (b == 32) ≡ p → (b == 9) ≡ q → Beginning (b ∷ bs)
beginning_by true q b bs e f = space bs (ap (λ (c : ℕ). c ∷ bs) (eqb-true b 32 e))
beginning_by false true b bs e f = tab bs (ap (λ (c : ℕ). c ∷ bs) (eqb-true b 9 f))
beginning_by false false b bs e f = other (or_from (b == 32) (b == 9) e f)

beginning : (bytes : List ℕ) → Beginning bytes
beginning [] = other refl
beginning (b ∷ bs) = beginning_by (b == 32) (b == 9) b bs refl refl

-- a line has four columns of blanks in front, or at most three spaces
pub data Front (line : List ℕ) : Type 0 where
  many : columns_in_front 4 (whole line) ≡ 4 → Front line
  few : (indent : ℕ) (bytes : List ℕ) → indent < 4 → line ≡ replicate indent 32 ++ bytes → begins is_space_or_tab bytes ≡ false → Front line

four_spaces : (bs : List ℕ) → columns_in_front 4 (whole (32 ∷ 32 ∷ 32 ∷ 32 ∷ bs)) ≡ 4
unfolding columns_in_front one_column
four_spaces bs = refl

tab_first : (bs : List ℕ) → columns_in_front 4 (whole (9 ∷ bs)) ≡ 4
unfolding columns_in_front one_column
tab_first bs = refl

tab_second : (bs : List ℕ) → columns_in_front 4 (whole (32 ∷ 9 ∷ bs)) ≡ 4
unfolding columns_in_front one_column
tab_second bs = refl

tab_third : (bs : List ℕ) → columns_in_front 4 (whole (32 ∷ 32 ∷ 9 ∷ bs)) ≡ 4
unfolding columns_in_front one_column
tab_third bs = refl

tab_fourth : (bs : List ℕ) → columns_in_front 4 (whole (32 ∷ 32 ∷ 32 ∷ 9 ∷ bs)) ≡ 4
unfolding columns_in_front one_column
tab_fourth bs = refl

after_three : (bs : List ℕ) → Beginning bs → Front (32 ∷ 32 ∷ 32 ∷ bs)
after_three bs (space cs e) = many (ap (λ (xs : List ℕ). columns_in_front 4 (whole (32 ∷ 32 ∷ 32 ∷ xs))) e ∙ four_spaces cs)
after_three bs (tab cs e) = many (ap (λ (xs : List ℕ). columns_in_front 4 (whole (32 ∷ 32 ∷ 32 ∷ xs))) e ∙ tab_fourth cs)
after_three bs (other h) = few 3 bs (omega arith) refl h

after_two : (bs : List ℕ) → Beginning bs → Front (32 ∷ 32 ∷ bs)
after_two bs (space cs e) = subst (λ (xs : List ℕ). Front (32 ∷ 32 ∷ xs)) (sym e) (after_three cs (beginning cs))
after_two bs (tab cs e) = many (ap (λ (xs : List ℕ). columns_in_front 4 (whole (32 ∷ 32 ∷ xs))) e ∙ tab_third cs)
after_two bs (other h) = few 2 bs (omega arith) refl h

after_one : (bs : List ℕ) → Beginning bs → Front (32 ∷ bs)
after_one bs (space cs e) = subst (λ (xs : List ℕ). Front (32 ∷ xs)) (sym e) (after_two cs (beginning cs))
after_one bs (tab cs e) = many (ap (λ (xs : List ℕ). columns_in_front 4 (whole (32 ∷ xs))) e ∙ tab_second cs)
after_one bs (other h) = few 1 bs (omega arith) refl h

after_none : (bs : List ℕ) → Beginning bs → Front bs
after_none bs (space cs e) = subst (λ (xs : List ℕ). Front xs) (sym e) (after_one cs (beginning cs))
after_none bs (tab cs e) = many (ap (λ (xs : List ℕ). columns_in_front 4 (whole xs)) e ∙ tab_first cs)
after_none bs (other h) = few 0 bs (omega arith) refl h

-- what is in front of a line
pub front : (line : List ℕ) → Front line
front line = after_none line (beginning line)

-- ---- three spaces at most are taken

pub columns_of : (indent : ℕ) (bytes : List ℕ) → indent < 4 → begins is_space_or_tab bytes ≡ false → columns_in_front 4 (whole (replicate indent 32 ++ bytes)) ≡ indent
unfolding columns_in_front one_column
columns_of zero [] less h = refl
columns_of (suc zero) [] less h = refl
columns_of (suc (suc zero)) [] less h = refl
columns_of (suc (suc (suc zero))) [] less h = refl
columns_of zero (b ∷ bs) less h = let no = or_parts (b == 32) (b == 9) h in rw no.0 (rw no.1 refl)
columns_of (suc zero) (b ∷ bs) less h = let no = or_parts (b == 32) (b == 9) h in rw no.0 (rw no.1 refl)
columns_of (suc (suc zero)) (b ∷ bs) less h = let no = or_parts (b == 32) (b == 9) h in rw no.0 (rw no.1 refl)
columns_of (suc (suc (suc zero))) (b ∷ bs) less h = let no = or_parts (b == 32) (b == 9) h in rw no.0 (rw no.1 refl)
columns_of (suc (suc (suc (suc n)))) bytes less h = absurd (omega (arith, less))

pub taken_of : (indent : ℕ) (bytes : List ℕ) → indent < 4 → begins is_space_or_tab bytes ≡ false → (take_columns 4 (whole (replicate indent 32 ++ bytes))).bytes ≡ bytes
unfolding take_columns one_column
taken_of zero [] less h = refl
taken_of (suc zero) [] less h = refl
taken_of (suc (suc zero)) [] less h = refl
taken_of (suc (suc (suc zero))) [] less h = refl
taken_of zero (b ∷ bs) less h = let no = or_parts (b == 32) (b == 9) h in rw no.0 (rw no.1 refl)
taken_of (suc zero) (b ∷ bs) less h = let no = or_parts (b == 32) (b == 9) h in rw no.0 (rw no.1 refl)
taken_of (suc (suc zero)) (b ∷ bs) less h = let no = or_parts (b == 32) (b == 9) h in rw no.0 (rw no.1 refl)
taken_of (suc (suc (suc zero))) (b ∷ bs) less h = let no = or_parts (b == 32) (b == 9) h in rw no.0 (rw no.1 refl)
taken_of (suc (suc (suc (suc n)))) bytes less h = absurd (omega (arith, less))
