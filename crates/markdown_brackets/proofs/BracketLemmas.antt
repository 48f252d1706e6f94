-- A number for the brackets that have a link inside.
use Rattle.std.proofs.Common.{◌≡◌, ℕ, zero, suc, ◌==◌, ◌<◌, ◌≤◌, Bool, true, nat_lt, min, List, [], ◌∷◌, ◌++◌, length, drop, map, reverse, refl, sym, ap, ◌∙◌, arith}
use Rattle.std.proofs.lemmas.List.{reverse-append, length-reverse}
use Rattle.std.proofs.lemmas.Bool.Decides.{nat_tests}
use Rattle.markdown_brackets.specs.declared.brackets.Bracket.{Bracket}
use Rattle.markdown_brackets.specs.declared.brackets.Open.{Open}
use Rattle.markdown_brackets.specs.Brackets.{kill, is_free}
use Rattle.markdown_brackets.specs.Readings.{marked}

abbrev marked_as : Bracket → List Open → Bool → List Open
marked_as b os t = record { bracket = b; dead = t } ∷ os

below_same : (k m d n : ℕ) → k < n → m ≡ min d n → nat_lt k m ≡ nat_lt k d
below_same k m d n h e = grind (arith, nat_tests)

below : (k n : ℕ) → k < n → nat_lt k n ≡ true
below k n h = grind (arith, nat_tests)

-- more than there are say no more
marked_cap : (m d n : ℕ) (bs : List Bracket) → length bs ≤ n → m ≡ min d n → marked m bs ≡ marked d bs
marked_cap m d n [] h e = refl
marked_cap m d n (b ∷ bs) h e =
    ap (marked_as b (marked m bs)) (below_same (length bs) m d n (omega arith) e)
    ∙ ap (λ (os : List Open). marked_as b os (nat_lt (length bs) d)) (marked_cap m d n bs (omega arith) e)

-- the nearest bracket is gone
pub marked_pop : (d m n : ℕ) (b : Bracket) (xs ys : List Bracket) → ys ≡ xs ++ b ∷ [] → n ≡ length xs → m ≡ min d n → marked m (reverse xs) ≡ drop 1 (marked d (reverse ys))
marked_pop d m n b xs ys e l h =
    let same : length (reverse xs) ≡ length xs = length-reverse xs in
    marked_cap m d n (reverse xs) (omega (arith, same)) h
    ∙ sym (ap (λ (bs : List Bracket). drop 1 (marked d bs)) (ap reverse e ∙ reverse-append xs (b ∷ [])))

-- all of them have a link inside
marked_kill : (d n : ℕ) (bs : List Bracket) → length bs ≤ n → marked n bs ≡ map kill (marked d bs)
marked_kill d n [] h = refl
marked_kill d n (b ∷ bs) h =
    ap (marked_as b (marked n bs)) (below (length bs) n (omega arith))
    ∙ ap (λ (os : List Open). marked_as b os true) (marked_kill d n bs (omega arith))

-- with the number of all brackets each of them has a link inside
pub marked_all : (d n : ℕ) (xs : List Bracket) → n ≡ length xs → marked n (reverse xs) ≡ map kill (marked d (reverse xs))
marked_all d n xs e = let same : length (reverse xs) ≡ length xs = length-reverse xs in marked_kill d n (reverse xs) (omega (arith, same))

marked_none : (dead count : ℕ) (bs : List Bracket) → length bs ≡ count → (count == 0) ≡ is_free (marked dead bs)
marked_none dead zero [] e = refl
marked_none dead (suc n) [] e = absurd (omega (arith, e))
marked_none dead zero (b ∷ bs) e = absurd (omega (arith, e))
marked_none dead (suc n) (b ∷ bs) e = grind (arith, nat_tests)

-- no bracket is open where none is kept
pub marked_free : (dead count : ℕ) (bs : List Bracket) → count ≡ length bs → (count == 0) ≡ is_free (marked dead (reverse bs))
marked_free dead count bs e = marked_none dead count (reverse bs) (length-reverse bs ∙ sym e)
