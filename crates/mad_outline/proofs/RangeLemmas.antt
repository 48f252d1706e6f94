-- What is put for each number of a range, one after the other.
use Rattle.std.proofs.Common.{◌≡◌, ℕ, suc, ◌+◌, ◌-◌, ◌<◌, ◌≤◌, List, ◌++◌, ap, sym, ◌∙◌, arith, append_assoc, append-nil}
use Rattle.std.specs.List.{flat_map, range_with_len}

-- a number more
pub number_more : {A : Type 0} (f : ℕ → List A) (n to : ℕ) (done new whole : List A) → n < to → done ++ flat_map f (range_with_len n (to - n)) ≡ whole → new ≡ done ++ f n → new ++ flat_map f (range_with_len (n + 1) (to - (n + 1))) ≡ whole
number_more {A = A} f n to done new whole below h put =
    let rest : List A = flat_map f (range_with_len (n + 1) (to - (n + 1))) in
    let one : to - n ≡ suc (to - (n + 1)) = omega arith in
    ap (λ (l : List A). l ++ rest) put ∙ append_assoc done (f n) rest ∙ ap (λ (k : ℕ). done ++ flat_map f (range_with_len n k)) (sym one) ∙ h

-- all are put
pub numbers_all : {A : Type 0} (f : ℕ → List A) (n to : ℕ) (done whole : List A) → to ≤ n → done ++ flat_map f (range_with_len n (to - n)) ≡ whole → done ≡ whole
numbers_all {A = A} f n to done whole past h =
    let none : to - n ≡ 0 = omega arith in
    sym (append-nil done) ∙ ap (λ (k : ℕ). done ++ flat_map f (range_with_len n k)) (sym none) ∙ h
