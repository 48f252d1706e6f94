-- Rows in which parts begin: which of them is found by halving.
use Rattle.std.proofs.Common.{◌≡◌, ℕ, zero, suc, ◌+◌, ◌<◌, ◌≤◌, leb, cond, Bool, true, false, List, [], ◌∷◌, ◌++◌, take, reverse, length, get_or, find, Option, Some, None, slice_get, refl, sym, ◌∙◌, ap, arith}
use Rattle.std.specs.Prelude.{nat_le, nat_lt}
use Rattle.std.specs.Ordering.{is_le, is_some_and, nat_cmp}
use Rattle.std.specs.List.{IsAllAdjacentAnswer}
use Rattle.std.specs.List.Sorted.{IsNonDecreasing, IsNonDecreasingBy, IsPartitionPoint}
use Rattle.std.specs.Option.{unwrap_or}
use Rattle.std.proofs.lemmas.Bool.{MatchBool-at_true, leb-true, leb-false, lt-ltb, le-ltb}
use Rattle.std.proofs.lemmas.Option.{unwrap_or-slice_get}
use Rattle.std.proofs.lemmas.Bool.Decides.{nat_tests}
use Rattle.std.proofs.lemmas.List.{reverse-append}
use Rattle.std.proofs.lemmas.List.Sorted.{non_decreasing_from_is_sorted}
use Rattle.mad_patterns.specs.Breaks.{part_end, row_or}

-- rows that were found sorted are in order
pub in_order : (xs : List ℕ) (r : Bool) → IsAllAdjacentAnswer (λ x y b. is_some_and is_le (Some (nat_cmp x y)) ≡ b) xs r → r ≡ true → IsNonDecreasing xs
in_order xs r cases e = MatchBool-at_true (IsNonDecreasing xs) ((k : ℕ) × (k + 1 < length xs) × ((d : ℕ) → get_or xs (k + 1) d < get_or xs k d)) e (non_decreasing_from_is_sorted xs r cases)

-- their order as one by the rows themselves
pub by_key : (xs : List ℕ) → IsNonDecreasing xs → IsNonDecreasingBy (λ (y : ℕ). y) xs
by_key xs h = h

-- the first row below this one is where those that aren't below it end
found_by_halves : (row : ℕ) (xs : List ℕ) (i : ℕ) → IsPartitionPoint (λ y. leb y row ≡ true) (λ y. leb y row ≡ false) xs i → i ≤ length xs → find (nat_lt row) xs ≡ slice_get xs i
found_by_halves row [] zero point bound = refl
found_by_halves row [] (suc i) point bound = absurd (omega (arith, bound))
found_by_halves row (x ∷ xs) zero point bound =
    let below : row < x = leb-false x row (point.1 zero x (omega arith) (omega arith)) in
    ap (λ (b : Bool). cond b (Some x) (find (nat_lt row) xs)) (lt-ltb row x below)
found_by_halves row (x ∷ xs) (suc i) point bound =
    let above : x ≤ row = leb-true x row (point.0 zero x (omega arith) (omega arith)) in
    ap (λ (b : Bool). cond b (Some x) (find (nat_lt row) xs)) (le-ltb row x above)
    ∙ found_by_halves row xs i (λ k d low high. point.0 (suc k) d (omega arith) (omega (arith, high)), λ k d low high. point.1 (suc k) d (omega (arith, low)) (omega (arith, high))) (omega (arith, bound))

-- so the row that is read there, or else the next row, is the part's end
pub end_by_halves : (xs : List ℕ) (row i : ℕ) → IsPartitionPoint (λ y. leb y row ≡ true) (λ y. leb y row ≡ false) xs i → i ≤ length xs → get_or xs i (row + 1) ≡ part_end xs row
end_by_halves xs row i point bound = sym (unwrap_or-slice_get xs i (row + 1)) ∙ or_else (slice_get xs i) ∙ ap (row_or (row + 1)) (sym (found_by_halves row xs i point bound)) where
  or_else : (o : Option ℕ) → unwrap_or o (row + 1) ≡ row_or (row + 1) o
  or_else None = refl
  or_else (Some x) = refl

-- a part ends below the row
pub end_below : (row : ℕ) (xs : List ℕ) → row < part_end xs row
end_below row [] = omega arith
end_below row (x ∷ xs) = below (nat_lt row x) refl (end_below row xs)
  where
    below : (b : Bool) → nat_lt row x ≡ b → row < part_end xs row → row < row_or (row + 1) (cond b (Some x) (find (nat_lt row) xs))
    below true e rest = let it : row < x = grind (arith, nat_tests, e) in it
    below false e rest = rest

-- ---- the last row that isn't below

abbrev or_find : Option ℕ → Option ℕ → Option ℕ
or_find None o = o
or_find (Some x) o = Some x

find_both : (p : ℕ → Bool) (xs ys : List ℕ) → find p (xs ++ ys) ≡ or_find (find p xs) (find p ys)
find_both p [] ys = refl
find_both p (x ∷ xs) ys = ap (cond (p x) (Some x)) (find_both p xs ys) ∙ first (p x)
  where
    first : (b : Bool) → cond b (Some x) (or_find (find p xs) (find p ys)) ≡ or_find (cond b (Some x) (find p xs)) (find p ys)
    first true = refl
    first false = refl

found_last : (p : ℕ → Bool) (x : ℕ) (xs : List ℕ) → find p (reverse (x ∷ xs)) ≡ or_find (find p (reverse xs)) (cond (p x) (Some x) None)
found_last p x xs = ap (find p) (reverse-append (x ∷ []) xs) ∙ find_both p (reverse xs) (x ∷ [])

-- it is among those in front of the rows below this one
pub found_in_front : (row : ℕ) (xs : List ℕ) (i : ℕ) → IsPartitionPoint (λ y. leb y row ≡ true) (λ y. leb y row ≡ false) xs i → i ≤ length xs
    → find (λ start. nat_le start row) (reverse (take i xs)) ≡ find (λ start. nat_le start row) (reverse xs)
found_in_front row [] zero point bound = refl
found_in_front row [] (suc i) point bound = refl
found_in_front row (x ∷ xs) zero point bound =
    let p : ℕ → Bool = λ start. nat_le start row in
    let rest : None ≡ find p (reverse xs) = found_in_front row xs zero (λ k d low high. absurd (omega (arith, high)), λ k d low high. point.1 (suc k) d (omega arith) (omega (arith, high))) (omega arith) in
    sym (found_last p x xs ∙ (ap (λ (o : Option ℕ). or_find o (cond (p x) (Some x) None)) (sym rest) ∙ ap (λ (b : Bool). cond b (Some x) None) (point.1 zero x (omega arith) (omega arith))))
found_in_front row (x ∷ xs) (suc i) point bound =
    let p : ℕ → Bool = λ start. nat_le start row in
    found_last p x (take i xs)
    ∙ (ap (λ (o : Option ℕ). or_find o (cond (p x) (Some x) None))
    (found_in_front row xs i (λ k d low high. point.0 (suc k) d (omega arith) (omega (arith, high)), λ k d low high. point.1 (suc k) d (omega (arith, low)) (omega (arith, high))) (omega (arith, bound)))
    ∙ sym (found_last p x xs))
