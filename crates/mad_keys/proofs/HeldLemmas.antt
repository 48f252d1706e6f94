-- Modifiers and their number.
use Rattle.std.proofs.Common.{◌≡◌, ℕ, ◌+◌, ◌*◌, ◌/◌, ◌%◌, ◌<◌, ltb, Some, None, refl, ap, ◌∙◌, sym, arith}
use Rattle.std.proofs.lemmas.Bool.{cond-true, cond_both, lt-ltb, ltb-true}
use Rattle.std.proofs.lemmas.Option.{cond_some}
use Rattle.mad_term.specs.declared.keys.KeyModifiers.{KeyModifiers}
use Rattle.mad_keys.specs.Keys.{held}
use Rattle.mad_keys.specs.PlainBytes.{number_of}

-- the number of these bits, and the bits of this number
abbrev turned : ℕ → ℕ
turned n = n % 2 + 2 * (n / 4) + 4 * (n / 2 % 2)

turned_small : (n : ℕ) → n < 8 → turned n < 8
turned_small n h = omega arith

turned_back : (n : ℕ) → n < 8 → turned (turned n) ≡ n
turned_back n h = omega arith

-- the modifiers of a number have it
pub number_of-held : (n : ℕ) → n < 8 → number_of (held n) ≡ Some n
number_of-held n h = cond-true (ltb (turned n) 8) _ _ (lt-ltb (turned n) 8 (turned_small n h)) ∙ ap Some (turned_back n h)

-- and modifiers with a number are those of it
abbrev of_bits : ℕ → KeyModifiers
of_bits bits = record { 0 = bits }

-- modifiers that have a number are those of that number
pub held-number_of : (m : KeyModifiers) (n : ℕ) → number_of m ≡ Some n → (n < 8) × (m ≡ held n)
held-number_of m n h =
    let k = cond_some (ltb m.0 8) (turned m.0) n h in
    let small : m.0 < 8 = ltb-true m.0 8 k.0 in
    let is : turned m.0 ≡ n = k.1 in
    let back : m.0 ≡ turned n = omega arith in
    (omega arith, ap (λ bits. of_bits bits) back)

-- modifiers that are those of no number have none
pub no_number : (m : KeyModifiers) → ((n : ℕ) → n < 8 → m ≡ held n → ⊥) → number_of m ≡ None
no_number m h =
    cond_both (ltb m.0 8) (Some (turned m.0)) None (λ o. o ≡ None)
    (λ t. let small : m.0 < 8 = ltb-true m.0 8 t in
    absurd (h (turned m.0) (turned_small m.0 small) (ap (λ bits. of_bits bits) (sym (turned_back m.0 small)))))
    (λ t. refl)
