-- A text repeated.
use Rattle.std.proofs.Common.{◌≡◌, ℕ, zero, suc, ◌+◌, ◌*◌, ◌/◌, ◌%◌, List, [], ◌∷◌, ◌++◌, refl, ap, sym, ◌∙◌, ◌≤◌, take, length, subst, arith, append_assoc}
use Rattle.std.specs.List.{repeat}
use Rattle.std.specs.Str.{IsAscii, IsCharBoundary}
use Rattle.std.proofs.lemmas.List.{append-nil}
use Rattle.std.proofs.lemmas.Str.{IsCharBoundary-from_ascii}
use Rattle.std.proofs.lemmas.Str.Ascii.{IsAscii-nil, IsAscii-cons}

repeat-suc : {A : Type 0} (n : ℕ) (xs : List A) → repeat n xs ++ xs ≡ repeat (suc n) xs
repeat-suc {A} zero xs = sym (append-nil xs)
repeat-suc {A} (suc n) xs = append_assoc xs (repeat n xs) xs ∙ ap (λ ys. xs ++ ys) (repeat-suc n xs)

-- once more
pub repeat-more : {A : Type 0} (n : ℕ) (xs : List A) → repeat n xs ++ xs ≡ repeat (n + 1) xs
repeat-more {A} n xs = let e : suc n ≡ n + 1 = omega arith in repeat-suc n xs ∙ ap (λ k. repeat k xs) e

-- nothing, however often
pub repeat-nil : {A : Type 0} (n : ℕ) (xs : List A) → length xs ≡ 0 → repeat n xs ≡ []
repeat-nil {A} zero xs e = refl
repeat-nil {A} (suc n) [] e = repeat-nil n [] e
repeat-nil {A} (suc n) (x ∷ xs) e = absurd (omega (arith, e))

repeat-add : {A : Type 0} (m n : ℕ) (xs : List A) → repeat (m + n) xs ≡ repeat m xs ++ repeat n xs
repeat-add {A} zero n xs = let e : zero + n ≡ n = omega arith in ap (λ k. repeat k xs) e
repeat-add {A} (suc m) n xs =
    let e : suc m + n ≡ suc (m + n) = omega arith in
    ap (λ k. repeat k xs) e ∙ ap (λ ys. xs ++ ys) (repeat-add m n xs) ∙ sym (append_assoc xs (repeat m xs) (repeat n xs))

abbrev one_space : List ℕ
one_space = 32 ∷ []

by_64 : (n : ℕ) → repeat n (repeat 64 one_space) ≡ repeat (n * 64) one_space
by_64 zero = refl
by_64 (suc n) =
    let e : 64 + n * 64 ≡ suc n * 64 = omega arith in
    ap (λ (ys : List ℕ). repeat 64 one_space ++ ys) (by_64 n) ∙ sym (repeat-add 64 (n * 64) one_space) ∙ ap (λ k. repeat k one_space) e

take_spaces : (k n : ℕ) → k ≤ n → take k (repeat n one_space) ≡ repeat k one_space
take_spaces zero n h = refl
take_spaces (suc k) zero h = absurd (omega arith)
take_spaces (suc k) (suc n) h = ap (λ (ys : List ℕ). 32 ∷ ys) (take_spaces k n (omega arith))

length_spaces : (n : ℕ) → length (repeat n one_space) ≡ n
length_spaces zero = refl
length_spaces (suc n) = ap suc (length_spaces n)

ascii_spaces : (n : ℕ) → IsAscii (repeat n one_space)
ascii_spaces zero = IsAscii-nil
ascii_spaces (suc n) = IsAscii-cons 32 (repeat n one_space) (omega arith) (ascii_spaces n)

-- a text of spaces may be cut anywhere
pub spaces_boundary : (n k : ℕ) → k ≤ n → IsCharBoundary (repeat n one_space) k
spaces_boundary n k h = IsCharBoundary-from_ascii (repeat n one_space) k (ascii_spaces n) (subst (λ (m : ℕ). k ≤ m) (sym (length_spaces n)) h)

-- spaces, 64 at a time
pub spaces_by_64 : (n : ℕ) → repeat (n / 64) (repeat 64 one_space) ++ take (n % 64) (repeat 64 one_space) ≡ repeat n one_space
spaces_by_64 n =
    let e : n / 64 * 64 + n % 64 ≡ n = omega arith in
    let less : n % 64 ≤ 64 = omega arith in
    ap (λ (ys : List ℕ). repeat (n / 64) (repeat 64 one_space) ++ ys) (take_spaces (n % 64) 64 less)
    ∙ ap (λ (ys : List ℕ). ys ++ repeat (n % 64) one_space) (by_64 (n / 64)) ∙ sym (repeat-add (n / 64 * 64) (n % 64) one_space) ∙ ap (λ k. repeat k one_space) e
