-- No event has more than 18 bytes.
use Rattle.std.proofs.Common.{◌≡◌, inl, inr, ℕ, ◌+◌, ◌*◌, ◌/◌, ◌%◌, ◌^◌, ◌<◌, ◌≤◌, ltb, leb, eqb, List, [], ◌∷◌, ◌++◌, length, Option, Some, None, refl, ap, ◌∙◌, sym, arith, length-append}
use Rattle.std.specs.Prelude.{◌&&◌, ◌||◌, decimal, encode_utf8}
use Rattle.std.specs.List.{flat_map}
use Rattle.std.proofs.lemmas.Bool.{cond-false, cond_both, and_parts, eqb-true, leb-true, ltb-true, cases_lt}
use Rattle.std.proofs.lemmas.Bool.Decides.{nat_tests}
use Rattle.std.proofs.lemmas.Option.{none-some}
use Rattle.std.proofs.lemmas.Fmt.{length-decimal-le}
use Rattle.std.proofs.lemmas.Str.{length-encode, len_utf8_bounds}
use Rattle.mad_term.specs.declared.events.Event.{Event}
use Rattle.mad_term.specs.declared.keys.KeyCode.{KeyCode}
use Rattle.mad_term.specs.Commands.{numbers_bytes}
use Rattle.mad_keys.specs.Keys.{number_key, letter_key}
use Rattle.mad_keys.specs.Sequences.{held_key, size_event, pair_event, sequence_event, mouse_kind, cell_event, mouse_event}
use Rattle.mad_keys.specs.EventBytes.{IsEventBytes}
use Rattle.mad_keys.proofs.NumberLemmas.{cond_then}
use Rattle.mad_keys.proofs.EventLemmas.{mapped, split}

-- ---- numbers that are keys

no_key : (n : ℕ) → 25 ≤ n → number_key n ≡ None
no_key n h =
    cond-false (eqb n 1 || eqb n 7) _ _ (grind (arith, nat_tests))
    ∙ cond-false (eqb n 2) _ _ (grind (arith, nat_tests))
    ∙ cond-false (eqb n 3) _ _ (grind (arith, nat_tests))
    ∙ cond-false (eqb n 4 || eqb n 8) _ _ (grind (arith, nat_tests))
    ∙ cond-false (eqb n 5) _ _ (grind (arith, nat_tests))
    ∙ cond-false (eqb n 6) _ _ (grind (arith, nat_tests))
    ∙ cond-false (leb 11 n && leb n 15) _ _ (grind (arith, nat_tests))
    ∙ cond-false (leb 17 n && leb n 21) _ _ (grind (arith, nat_tests))
    ∙ cond-false (leb 23 n && leb n 24) _ _ (grind (arith, nat_tests))

key_number_small : (n : ℕ) (code : KeyCode) → number_key n ≡ Some code → n < 25
key_number_small n code h = elim (cases_lt n 25) [
  | inl less ↦ less
  | inr more ↦ absurd (none-some code (sym (no_key n more) ∙ h))
]

no_kind : (n letter : ℕ) → 66 ≤ n → mouse_kind n letter ≡ None
no_kind n letter h =
    cond_both (eqb letter 109) _ _ (λ o. o ≡ None)
    (λ t. cond-false (eqb n 0) _ _ (grind (arith, nat_tests)) ∙ cond-false (eqb n 1) _ _ (grind (arith, nat_tests)) ∙ cond-false (eqb n 2) _ _ (grind (arith, nat_tests)))
    (λ t. cond_both (eqb letter 77) _ _ (λ o. o ≡ None)
    (λ u. cond-false (eqb n 0) _ _ (grind (arith, nat_tests)) ∙ cond-false (eqb n 1) _ _ (grind (arith, nat_tests)) ∙ cond-false (eqb n 2) _ _ (grind (arith, nat_tests))
    ∙ cond-false (eqb n 32) _ _ (grind (arith, nat_tests)) ∙ cond-false (eqb n 33) _ _ (grind (arith, nat_tests)) ∙ cond-false (eqb n 34) _ _ (grind (arith, nat_tests))
    ∙ cond-false (eqb n 35) _ _ (grind (arith, nat_tests)) ∙ cond-false (eqb n 64) _ _ (grind (arith, nat_tests)) ∙ cond-false (eqb n 65) _ _ (grind (arith, nat_tests)))
    (λ u. refl))

-- ---- numbers of an event

held_small : (m : ℕ) (code : Option KeyCode) (e : Event) → held_key m code ≡ Some e → m ≤ 8
held_small m code e h = leb-true m 8 (and_parts (leb 2 m) (leb m 8) (cond_then (leb 2 m && leb m 8) _ e h).0).1

-- where a key with modifiers is an event, there is a key
pub held_is_key : (m : ℕ) (code : Option KeyCode) (e : Event) → held_key m code ≡ Some e → (k : KeyCode) × (code ≡ Some k)
held_is_key m code e h = let s = mapped _ code e (cond_then (leb 2 m && leb m 8) _ e h).1 in (s.0, s.1)

size_small : (columns rows : ℕ) (e : Event) → size_event columns rows ≡ Some e → (columns < 2 ^ 16) × (rows < 2 ^ 16)
size_small columns rows e h =
    let t = (cond_then (leb 1 columns && ltb columns (2 ^ 16) && leb 1 rows && ltb rows (2 ^ 16)) _ e h).0 in
    let u = and_parts (leb 1 columns && ltb columns (2 ^ 16) && leb 1 rows) (ltb rows (2 ^ 16)) t in
    let v = and_parts (leb 1 columns && ltb columns (2 ^ 16)) (leb 1 rows) u.0 in
    let w = and_parts (leb 1 columns) (ltb columns (2 ^ 16)) v.0 in
    (ltb-true _ _ w.1, ltb-true _ _ u.1)

pair_small : (n m letter : ℕ) (e : Event) → pair_event n m letter ≡ Some e → (n < 2 ^ 16) × (m < 2 ^ 16)
pair_small n m letter e h =
    split (eqb letter 126) _ _ e
    (λ t x. let k = held_is_key m (number_key n) e x in
    let small : n < 25 = key_number_small n k.0 k.1 in
    let few : m ≤ 8 = held_small m (number_key n) e x in
    (omega arith, omega arith))
    (λ t y. split (eqb n 1) _ _ e
    (λ u x. let few : m ≤ 8 = held_small m (letter_key letter) e x in
    let one : n ≡ 1 = eqb-true n 1 u in
    (omega arith, omega arith))
    (λ u z. let s = size_small m n e (cond_then (eqb letter 82) _ e z).1 in (s.1, s.0))
    y)
    h

-- ---- lengths

two : (n : ℕ) → n < 100 → length (decimal n) ≤ 2
two n h = length-decimal-le 2 n (omega arith) (omega arith) (omega arith)

five : (n : ℕ) → n ≤ 2 ^ 16 → length (decimal n) ≤ 5
five n h = length-decimal-le 5 n (omega arith) (omega arith) (omega arith)

-- the bytes of numbers after the first, each with its semicolon
abbrev rest_length : List ℕ → ℕ
rest_length [] = 0
rest_length (m ∷ ms) = 1 + length (decimal m) + rest_length ms

length-rest : (ms : List ℕ) → length (flat_map (λ m. 59 ∷ decimal m) ms) ≡ rest_length ms
length-rest [] = refl
length-rest (m ∷ ms) = omega (arith, length-append (59 ∷ decimal m) (flat_map (λ m. 59 ∷ decimal m) ms), length-rest ms)

length-all : (n : ℕ) (ns : List ℕ) (letter : ℕ) → length (numbers_bytes (n ∷ ns) ++ letter ∷ []) ≡ length (decimal n) + rest_length ns + 1
length-all n ns letter =
    omega (arith, length-append (numbers_bytes (n ∷ ns)) (letter ∷ []), length-append (decimal n) (flat_map (λ m. 59 ∷ decimal m) ns), length-rest ns)

sequence_short : (ns : List ℕ) (letter : ℕ) (e : Event) → sequence_event ns letter ≡ Some e → length (numbers_bytes ns ++ letter ∷ []) ≤ 16
sequence_short [] letter e h = omega arith
sequence_short (n ∷ []) letter e h =
    let k = mapped _ (number_key n) e (cond_then (eqb letter 126) _ e h).1 in
    let small : length (decimal n) ≤ 2 = two n (omega (arith, key_number_small n k.0 k.1)) in
    let all : length (numbers_bytes (n ∷ []) ++ letter ∷ []) ≡ length (decimal n) + 0 + 1 = length-all n [] letter in
    omega arith
sequence_short (n ∷ m ∷ []) letter e h =
    let s = pair_small n m letter e h in
    let a : length (decimal n) ≤ 5 = five n (omega (arith, s.0)) in
    let b : length (decimal m) ≤ 5 = five m (omega (arith, s.1)) in
    let all : length (numbers_bytes (n ∷ m ∷ []) ++ letter ∷ []) ≡ length (decimal n) + (1 + length (decimal m) + 0) + 1 = length-all n (m ∷ []) letter in
    omega arith
sequence_short (n ∷ r ∷ c ∷ []) letter e h =
    let k = cond_then (eqb n 8 && eqb letter 116) _ e h in
    let eight : n ≡ 8 = eqb-true n 8 (and_parts (eqb n 8) (eqb letter 116) k.0).0 in
    let s = size_small c r e k.1 in
    let one : length (decimal n) ≤ 1 = length-decimal-le 1 n (omega arith) (omega arith) (omega arith) in
    let a : length (decimal r) ≤ 5 = five r (omega (arith, s.1)) in
    let b : length (decimal c) ≤ 5 = five c (omega (arith, s.0)) in
    let all : length (numbers_bytes (n ∷ r ∷ c ∷ []) ++ letter ∷ []) ≡ length (decimal n) + (1 + length (decimal r) + (1 + length (decimal c) + 0)) + 1 = length-all n (r ∷ c ∷ []) letter in
    omega arith
sequence_short (a ∷ b ∷ c ∷ d ∷ ns) letter e h = absurd (none-some e h)

cell_small : (n x y letter : ℕ) (e : Event) → cell_event n x y letter ≡ Some e → (n < 100) × (x ≤ 2 ^ 16) × (y ≤ 2 ^ 16)
cell_small n x y letter e h =
    let k = cond_then (leb 1 x && leb x (2 ^ 16) && leb 1 y && leb y (2 ^ 16)) _ e h in
    let u = and_parts (leb 1 x && leb x (2 ^ 16) && leb 1 y) (leb y (2 ^ 16)) k.0 in
    let v = and_parts (leb 1 x && leb x (2 ^ 16)) (leb 1 y) u.0 in
    let w = and_parts (leb 1 x) (leb x (2 ^ 16)) v.0 in
    let m = mapped _ (mouse_kind (n % 4 + 32 * (n / 32)) letter) e k.1 in
    let small : n < 100 = elim (cases_lt n 100) [
      | inl less ↦ less
      | inr more ↦ absurd (none-some m.0 (sym (no_kind (n % 4 + 32 * (n / 32)) letter (omega arith)) ∙ m.1))
    ] in
    (small, leb-true _ _ w.1, leb-true _ _ u.1)

mouse_short : (ns : List ℕ) (letter : ℕ) (e : Event) → mouse_event ns letter ≡ Some e → length (numbers_bytes ns ++ letter ∷ []) ≤ 15
mouse_short [] letter e h = absurd (none-some e h)
mouse_short (n ∷ []) letter e h = absurd (none-some e h)
mouse_short (n ∷ m ∷ []) letter e h = absurd (none-some e h)
mouse_short (n ∷ x ∷ y ∷ []) letter e h =
    let s = cell_small n x y letter e h in
    let one : length (decimal n) ≤ 2 = two n s.0 in
    let a : length (decimal x) ≤ 5 = five x s.1 in
    let b : length (decimal y) ≤ 5 = five y s.2 in
    let all : length (numbers_bytes (n ∷ x ∷ y ∷ []) ++ letter ∷ []) ≡ length (decimal n) + (1 + length (decimal x) + (1 + length (decimal y) + 0)) + 1 = length-all n (x ∷ y ∷ []) letter in
    omega arith
mouse_short (a ∷ b ∷ c ∷ d ∷ ns) letter e h = absurd (none-some e h)

char_short : (c : ℕ) → length (encode_utf8 c) ≤ 4
char_short c = omega (arith, length-encode c, len_utf8_bounds c)

-- no event has more than 18 bytes
pub event_short : (bs : List ℕ) (e : Event) → IsEventBytes e bs → length bs ≤ 18
event_short bs e (inl h) = omega (arith, ap length h.0)
event_short bs e (inr (inl h)) = omega (arith, ap length h.written, char_short h.char)
event_short bs e (inr (inr (inl h))) = omega (arith, ap length h.written, char_short h.char)
event_short bs e (inr (inr (inr (inl h)))) = omega (arith, ap length h.written, sequence_short h.numbers h.letter e h.told)
event_short bs e (inr (inr (inr (inr (inl h))))) = omega (arith, ap length h.written, mouse_short h.numbers h.letter e h.told)
event_short bs e (inr (inr (inr (inr (inr (inl h)))))) = omega (arith, ap length h.written)
event_short bs e (inr (inr (inr (inr (inr (inr h)))))) = omega (arith, ap length h.written)
