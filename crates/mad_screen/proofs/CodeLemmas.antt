-- The codes of a set of attributes, one after another.
use Rattle.std.proofs.Common.{◌≡◌, ◌≢◌, ◌⊎◌, ⊎_elim, inl, inr, ℕ, suc, ◌-◌, ◌^◌, ◌<◌, ◌≤◌, min, max, ap, sym, ◌∙◌, arith}
use Rattle.std.specs.Int.{bit_at}
use Rattle.std.specs.Int.RustNames.{bit_and, bit_or}
use Rattle.std.proofs.lemmas.Bool.{cases_eq, cases_lt}
use Rattle.std.proofs.lemmas.Nat.Bits.{bit_at_and, bit_at_or, bit_at-lt, bit_at-zero, bit_at-pow_same, bit_at-pow_other, bit_at_mask_inside, bit_at_mask_below, bit_at_mask_above, same_from_bits}

-- the bits of a number from index 1 up to index k
abbrev pub bits_to : ℕ → ℕ → ℕ
bits_to n k = bit_and n (2 ^ k - 2 ^ 1)

-- up to index 1 there is none
pub no_bits : (n : ℕ) → bits_to n 1 ≡ 0
no_bits n = same_from_bits (bits_to n 1) 0 (λ i. bit_at_and n (2 ^ 1 - 2 ^ 1) i ∙ ap (λ b. min (bit_at n i) b) (bit_at-zero i) ∙ nothing (bit_at n i) ∙ sym (bit_at-zero i))
  where
    nothing : (m : ℕ) → min m 0 ≡ 0
    nothing m = omega arith

-- each of them
pub inside : (n k i : ℕ) → 1 ≤ i → i < k → bit_at (bits_to n k) i ≡ bit_at n i
inside n k i low high =
    let one : bit_at n i < 2 = bit_at-lt n i in
    let same : min (bit_at n i) 1 ≡ bit_at n i = omega arith in
    bit_at_and n (2 ^ k - 2 ^ 1) i ∙ ap (λ b. min (bit_at n i) b) (bit_at_mask_inside 1 k i low high) ∙ same

-- no other bit is there
pub outside : (n k i : ℕ) → (i < 1) ⊎ (k ≤ i) → bit_at (bits_to n k) i ≡ 0
outside n k i out =
    let none : min (bit_at n i) 0 ≡ 0 = omega arith in
    bit_at_and n (2 ^ k - 2 ^ 1) i
    ∙ ap (λ b. min (bit_at n i) b) (⊎_elim (λ below. bit_at_mask_below 1 k i below) (λ above. bit_at_mask_above 1 k i above) out) ∙ none

other_bit : (n k i : ℕ) → i ≢ k → bit_at (bits_to n k) i ≡ bit_at (bits_to n (suc k)) i
other_bit n k i ne =
    ⊎_elim
    (λ (low : i < 1). outside n k i (inl low) ∙ sym (outside n (suc k) i (inl low)))
    (λ (some : 1 ≤ i). ⊎_elim
    (λ (below : i < k). inside n k i some below ∙ sym (inside n (suc k) i some (omega arith)))
    (λ (above : k ≤ i). outside n k i (inr above) ∙ sym (outside n (suc k) i (inr (omega arith))))
    (cases_lt i k))
    (cases_lt i 1)

with_bit : (n k i : ℕ) → 1 ≤ k → bit_at n k ≡ 1 → bit_at (bit_or (bits_to n k) (2 ^ k)) i ≡ bit_at (bits_to n (suc k)) i
with_bit n k i some has =
    bit_at_or (bits_to n k) (2 ^ k) i
    ∙ ⊎_elim
    (λ (same : i ≡ k).
    ap (λ j. max (bit_at (bits_to n k) j) (bit_at (2 ^ k) j)) same
    ∙ ap (λ b. max (bit_at (bits_to n k) k) b) (bit_at-pow_same k) ∙ ap (λ b. max b 1) (outside n k k (inr (omega arith)))
    ∙ sym has ∙ sym (inside n (suc k) k some (omega arith)) ∙ ap (bit_at (bits_to n (suc k))) (sym same))
    (λ (ne : i ≢ k).
    let kept : max (bit_at (bits_to n k) i) 0 ≡ bit_at (bits_to n k) i = omega arith in
    ap (λ b. max (bit_at (bits_to n k) i) b) (bit_at-pow_other k i ne) ∙ kept ∙ other_bit n k i ne)
    (cases_eq i k)

without_bit : (n k i : ℕ) → 1 ≤ k → bit_at n k ≡ 0 → bit_at (bits_to n k) i ≡ bit_at (bits_to n (suc k)) i
without_bit n k i some has =
    ⊎_elim
    (λ (same : i ≡ k).
    ap (bit_at (bits_to n k)) same ∙ outside n k k (inr (omega arith)) ∙ sym has ∙ sym (inside n (suc k) k some (omega arith))
    ∙ ap (bit_at (bits_to n (suc k))) (sym same))
    (λ (ne : i ≢ k). other_bit n k i ne)
    (cases_eq i k)

-- one more index, where there is a bit
pub bits_more : (n k : ℕ) → 1 ≤ k → bit_at n k ≡ 1 → bit_or (bits_to n k) (2 ^ k) ≡ bits_to n (suc k)
bits_more n k some has = same_from_bits (bit_or (bits_to n k) (2 ^ k)) (bits_to n (suc k)) (λ i. with_bit n k i some has)

-- and where there is none
pub bits_same : (n k : ℕ) → 1 ≤ k → bit_at n k ≡ 0 → bits_to n k ≡ bits_to n (suc k)
bits_same n k some has = same_from_bits (bits_to n k) (bits_to n (suc k)) (λ i. without_bit n k i some has)
