-- Sets that have the same attributes are equal.
use Rattle.std.proofs.Common.{◌≡◌, ℕ, zero, suc, ◌/◌, ◌%◌, ◌^◌, ◌<◌, true, false, eqb, slice_index_or, refl, ap, sym, ◌∙◌, subst, arith, lit<}
use Rattle.std.specs.Coded.{le_prop}
use Rattle.std.specs.Int.{bit_at}
use Rattle.std.proofs.lemmas.Nat.Bits.{bit_at-lt, bit_at-zero, bit_at_lowest, bit_at-suc}
use Rattle.std.proofs.Math.Nat.{pow-suc}
use Rattle.std.proofs.lemmas.Bool.{eqb-true, agree_below_at}
use Rattle.mad_term.specs.declared.attributes.Attributes.{Attributes}
use Rattle.mad_term.specs.declared.attribute.Attribute.{Attribute}
use Rattle.mad_term.specs.declared.attribute.Attribute.TheVariants.{Reset}
use Rattle.mad_term.specs.Attribute.{all_attributes, attribute_index}
use Rattle.mad_term.specs.Attributes.{attribute_bits, has_attribute}
use Rattle.mad_term.specs.AttributeSets.{set_of_bits}

-- a word is its bits
pub bits_same : (k m n : ℕ) → m < 2 ^ k → n < 2 ^ k → ((i : ℕ) → i < k → bit_at m i ≡ bit_at n i) → m ≡ n
bits_same zero m n p q h = omega arith
bits_same (suc k) m n p q h =
    let double = pow-suc 2 k in
    let low : m % 2 ≡ n % 2 = sym (bit_at_lowest m) ∙ h 0 (omega arith) ∙ bit_at_lowest n in
    let high : m / 2 ≡ n / 2 = bits_same k (m / 2) (n / 2) (omega arith) (omega arith) (λ i b. sym (bit_at-suc m i) ∙ h (suc i) (omega arith) ∙ bit_at-suc n i) in
    omega (arith, low, high)

-- the attribute at a attribute_index
abbrev at : ℕ → Attribute
at i = slice_index_or all_attributes i Reset

attribute_at : (i : ℕ) → i < 24 → attribute_index (at i) ≡ i
attribute_at i low = eqb-true (attribute_index (at i)) i (agree_below_at (λ k. eqb (attribute_index (at k)) k) (λ _. true) 24 i refl low)

bit_from : (x y : ℕ) → x < 2 → y < 2 → eqb x 1 ≡ eqb y 1 → x ≡ y
bit_from zero zero p q e = refl
bit_from zero (suc zero) p q e = cc
bit_from (suc zero) zero p q e = cc
bit_from (suc zero) (suc zero) p q e = refl
bit_from _ _ p q e = absurd (omega arith)

bits_from : (m n : ℕ) → m < 2 ^ 24 → n < 2 ^ 24 → ((a : Attribute) → eqb (bit_at m (attribute_index a)) 1 ≡ eqb (bit_at n (attribute_index a)) 1) → m ≡ n
bits_from m n p q h =
    bits_same 24 m n p q (λ i low. bit_from (bit_at m i) (bit_at n i) (bit_at-lt m i) (bit_at-lt n i) (subst (λ k. eqb (bit_at m k) 1 ≡ eqb (bit_at n k) 1) (attribute_at i low) (h (at i))))

-- a set without attributes is the word 0
pub no_bits : (s : Attributes) → ((a : Attribute) → has_attribute s a ≡ false) → attribute_bits s ≡ 0
no_bits s h = bits_from (attribute_bits s) 0 s.within (lit< tt) (λ a. h a ∙ sym (ap (λ b. eqb b 1) (bit_at-zero (attribute_index a))))

-- the word 0 is a set without attributes
pub no_attribute : (s : Attributes) → attribute_bits s ≡ 0 → (a : Attribute) → has_attribute s a ≡ false
no_attribute s e a = ap (λ n. eqb (bit_at n (attribute_index a)) 1) e ∙ ap (λ b. eqb b 1) (bit_at-zero (attribute_index a))

same_number : (m n : ℕ) (v : m < 2 ^ 24) (w : n < 2 ^ 24) → m ≡ n → set_of_bits m v ≡ set_of_bits n w
same_number m n v w e =
    let P : ℕ → Type 0 = λ k. (u : k < 2 ^ 24) → set_of_bits m v ≡ set_of_bits k u in
    subst P e (λ u. ap (set_of_bits m) (le_prop v u)) w

-- two sets are one where their numbers are
pub same_bits : (s t : Attributes) → attribute_bits s ≡ attribute_bits t → s ≡ t
same_bits s t e = same_number _ _ s.within t.within e

-- two sets with the same attributes are one
pub same_sets : (s t : Attributes) → ((a : Attribute) → has_attribute s a ≡ has_attribute t a) → s ≡ t
same_sets s t h = same_bits s t (bits_from (attribute_bits s) (attribute_bits t) s.within t.within h)
