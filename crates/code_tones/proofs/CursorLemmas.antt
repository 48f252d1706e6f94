-- The tones that a cursor has before it.
use Rattle.std.proofs.Common.{◌≡◌, ℕ, zero, suc, ◌-◌, ◌<◌, List, ◌++◌, get_or, drop, refl, ap, ◌∙◌, arith, drop-drop}
use Rattle.std.specs.Prelude.{replicate}

-- the tone of a run that isn't used up is the next one
pub first_left : (n v : ℕ) (later : List ℕ) → 0 < n → v ≡ get_or (replicate n v ++ later) 0 0
first_left zero v later some = absurd (omega arith)
first_left (suc n) v later some = refl

-- behind it one less of the run is left
pub next_left : (n m v : ℕ) (later : List ℕ) → 0 < n → m ≡ n - 1 → replicate m v ++ later ≡ drop 1 (replicate n v ++ later)
next_left zero m v later some e = absurd (omega arith)
next_left (suc n) m v later some e = ap (λ (k : ℕ). replicate k v ++ later) (omega arith)

-- without the first, and then without one less than so many, is without so many
pub one_more : (n : ℕ) (xs : List ℕ) → 0 < n → drop (n - 1) (drop 1 xs) ≡ drop n xs
one_more n xs some = drop-drop (n - 1) 1 xs ∙ ap (λ (k : ℕ). drop k xs) (omega arith)
