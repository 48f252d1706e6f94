-- Writing values one after another.
use Rattle.std.proofs.Common.{◌≡◌, ◌≢◌, ◌⊎◌, inl, inr, ⊎_elim, ℕ, suc, zero, ◌+◌, ◌<◌, ◌≤◌, List, [], ◌∷◌, ◌++◌, length, get_or, set, refl, ap, ◌∙◌, arith, add-zero, length-set, replicate, sym}
use Rattle.std.proofs.lemmas.List.{get_or-set_same, get_or-set_other, length-replicate, replicate-append-replicate}
use Rattle.mad_links.specs.LinkTerminal.{put_each}

-- as many values are there as before
pub length-put_each : {A : Type 0} (xs : List A) (i : ℕ) (ys : List A) → length (put_each xs i ys) ≡ length xs
length-put_each xs i [] = refl
length-put_each xs i (y ∷ ys) = length-put_each (set xs i y) (suc i) ys ∙ length-set xs i y

-- values, and others behind them
pub put_each-append : {A : Type 0} (xs : List A) (i : ℕ) (ys zs : List A) → put_each xs i (ys ++ zs) ≡ put_each (put_each xs i ys) (i + length ys) zs
put_each-append xs i [] zs = ap (λ j. put_each xs j zs) (omega arith)
put_each-append xs i (y ∷ ys) zs =
    put_each-append (set xs i y) (suc i) ys zs ∙ ap (λ j. put_each (put_each (set xs i y) (suc i) ys) j zs) (omega arith)

-- an index before or after is unchanged
pub put_each-other : {A : Type 0} (xs : List A) (i : ℕ) (ys : List A) (j : ℕ) (d : A) → (j < i) ⊎ (i + length ys ≤ j) → get_or (put_each xs i ys) j d ≡ get_or xs j d
put_each-other xs i [] j d h = refl
put_each-other xs i (y ∷ ys) j d h =
    let out : (j < suc i) ⊎ (suc i + length ys ≤ j) = ⊎_elim (λ b. inl (omega arith)) (λ b. inr (omega arith)) h in
    let ne : j ≢ i = ⊎_elim (λ b. omega arith) (λ b. omega arith) h in
    put_each-other (set xs i y) (suc i) ys j d out ∙ get_or-set_other xs i j y d ne

-- an index among them has its value
pub put_each-same : {A : Type 0} (xs : List A) (i : ℕ) (ys : List A) (k : ℕ) (d : A) → k < length ys → i + length ys ≤ length xs → get_or (put_each xs i ys) (i + k) d ≡ get_or ys k d
put_each-same xs i [] k d h fits = absurd (omega arith)
put_each-same xs i (y ∷ ys) zero d h fits =
    ap (λ j. get_or (put_each (set xs i y) (suc i) ys) j d) (add-zero i)
    ∙ put_each-other (set xs i y) (suc i) ys i d (inl (omega arith)) ∙ get_or-set_same xs i y d (omega arith)
put_each-same xs i (y ∷ ys) (suc k) d h fits =
    ap (λ j. get_or (put_each (set xs i y) (suc i) ys) j d) (omega arith)
    ∙ put_each-same (set xs i y) (suc i) ys k d (omega arith) (omega (arith, length-set xs i y))

-- the same value, and again
pub put_same_more : {A : Type 0} (xs : List A) (i m n : ℕ) (x : A) → put_each (put_each xs i (replicate m x)) (i + m) (replicate n x) ≡ put_each xs i (replicate (m + n) x)
put_same_more xs i m n x =
    let place : i + m ≡ i + length (replicate m x) = omega (arith, length-replicate m x) in
    ap (λ j. put_each (put_each xs i (replicate m x)) j (replicate n x)) place
    ∙ sym (put_each-append xs i (replicate m x) (replicate n x))
    ∙ ap (put_each xs i) (replicate-append-replicate m n x)
