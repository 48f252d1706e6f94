-- The bytes of an event are one item.
use Rattle.std.proofs.Common.{◌≡◌, ◌≢◌, ◌⊎◌, inl, inr, ℕ, ◌+◌, ◌*◌, ◌/◌, ◌%◌, ◌^◌, ◌<◌, ◌≤◌, leb, eqb, List, [], ◌∷◌, ◌++◌, length, Some, None, refl, ap, ◌∙◌, sym, subst, arith, append_assoc, length-append}
use Rattle.std.specs.Prelude.{◌&&◌, ◌||◌, decimal}
use Rattle.std.specs.List.{flat_map}
use Rattle.std.proofs.lemmas.Bool.{cond-true, cond-false, and_parts, eqb-true, leb-true, ne_eqb, cases_lt}
use Rattle.std.proofs.lemmas.Bool.Decides.{nat_tests}
use Rattle.std.proofs.lemmas.Option.{none-some}
use Rattle.std.proofs.lemmas.Fmt.{decimal_by_steps, decimal_nonempty}
use Rattle.mad_term.specs.declared.events.Event.{Event}
use Rattle.mad_term.specs.declared.keys.KeyCode.{KeyCode}
use Rattle.mad_term.specs.Commands.{numbers_bytes}
use Rattle.mad_keys.specs.declared.steps.Step.TheVariants.{Waits, Ends, Breaks}
use Rattle.mad_keys.specs.Steps.{among_step, step_of}
use Rattle.mad_keys.specs.Digits.{AreSmall}
use Rattle.mad_keys.specs.Keys.{letter_key, console_key}
use Rattle.mad_keys.specs.Sequences.{letter_event, pair_event, sequence_event, mouse_kind, cell_event, mouse_event}
use Rattle.mad_keys.specs.EventBytes.{IsSequenceBytes, IsMouseBytes, IsApplicationBytes, IsConsoleBytes, IsEventBytes}
use Rattle.mad_keys.specs.Readings.{Whole, IsReading, IsBlock}
use Rattle.mad_keys.proofs.NumberLemmas.{cond_then}
use Rattle.mad_keys.proofs.EventLemmas.{mapped, split}
use Rattle.mad_keys.proofs.ReadingLemmas.{extend, whole}
use Rattle.mad_keys.proofs.ShortLemmas.{held_is_key}

-- the front grows by each of these bytes, and is whole with the last one
abbrev pub IsRun : List ℕ → List ℕ → Type 0
IsRun w [] = ⊥
IsRun w (b ∷ []) = step_of w b ≡ Ends
IsRun w (b ∷ c ∷ bytes) = (step_of w b ≡ Waits) × IsRun (w ++ b ∷ []) (c ∷ bytes)

run_read : (bytes w : List ℕ) → IsRun w bytes → IsReading w bytes (Whole (w ++ bytes) ∷ []) []
run_read [] w h = absurd h
run_read (b ∷ []) w h = whole [] w b [] [] h refl
run_read (b ∷ c ∷ bytes) w h =
    subst (λ (l : List ℕ). IsReading w (b ∷ c ∷ bytes) (Whole l ∷ []) []) (append_assoc w (b ∷ []) (c ∷ bytes))
    (extend (Whole ((w ++ b ∷ []) ++ c ∷ bytes) ∷ []) w b (c ∷ bytes) [] h.0 (run_read (c ∷ bytes) (w ++ b ∷ []) h.1))

-- bytes that make a front grow and end it are a block of their one event
pub run_block : (bytes : List ℕ) (e : Event) → IsRun [] bytes → IsEventBytes e bytes → IsBlock [] bytes (e ∷ []) []
run_block bytes e run is = record { items = Whole bytes ∷ []; before = []; read = run_read bytes [] run; told = (Some e, [], is, refl, refl); left = refl }

-- ---- what ends a sequence

no_letter_low : (l : ℕ) → l < 65 → letter_key l ≡ None
no_letter_low l h =
    cond-false (eqb l 65) _ _ (grind (arith, nat_tests)) ∙ cond-false (eqb l 66) _ _ (grind (arith, nat_tests)) ∙ cond-false (eqb l 67) _ _ (grind (arith, nat_tests))
    ∙ cond-false (eqb l 68) _ _ (grind (arith, nat_tests)) ∙ cond-false (eqb l 70) _ _ (grind (arith, nat_tests)) ∙ cond-false (eqb l 72) _ _ (grind (arith, nat_tests))
    ∙ cond-false (leb 80 l && leb l 83) _ _ (grind (arith, nat_tests))

no_letter_high : (l : ℕ) → 84 ≤ l → letter_key l ≡ None
no_letter_high l h =
    cond-false (eqb l 65) _ _ (grind (arith, nat_tests)) ∙ cond-false (eqb l 66) _ _ (grind (arith, nat_tests)) ∙ cond-false (eqb l 67) _ _ (grind (arith, nat_tests))
    ∙ cond-false (eqb l 68) _ _ (grind (arith, nat_tests)) ∙ cond-false (eqb l 70) _ _ (grind (arith, nat_tests)) ∙ cond-false (eqb l 72) _ _ (grind (arith, nat_tests))
    ∙ cond-false (leb 80 l && leb l 83) _ _ (grind (arith, nat_tests))

-- a letter that ends a sequence with numbers
record IsLetter (l : ℕ) : Type 0 where
  low : 64 ≤ l
  high : l ≤ 126

letter_is : (l : ℕ) (code : KeyCode) → letter_key l ≡ Some code → (65 ≤ l) × (l ≤ 83)
letter_is l code h = (
  elim (cases_lt l 65) [ inl less ↦ absurd (none-some code (sym (no_letter_low l less) ∙ h)) | inr more ↦ more ],
  elim (cases_lt l 84) [ inl less ↦ omega arith | inr more ↦ absurd (none-some code (sym (no_letter_high l more) ∙ h)) ],
)

key_letter : (l : ℕ) (code : KeyCode) → letter_key l ≡ Some code → IsLetter l
key_letter l code h = let b = letter_is l code h in record { low = omega (arith, b.0); high = omega (arith, b.1) }

alone_letter : (l : ℕ) (e : Event) → letter_event l ≡ Some e → IsLetter l
alone_letter l e h =
    split (eqb l 90) _ _ e (λ t x. let is : l ≡ 90 = eqb-true l 90 t in record { low = omega arith; high = omega arith })
    (λ t y. split (eqb l 73) _ _ e (λ u x. let is : l ≡ 73 = eqb-true l 73 u in record { low = omega arith; high = omega arith })
    (λ u z. split (eqb l 79) _ _ e (λ v x. let is : l ≡ 79 = eqb-true l 79 v in record { low = omega arith; high = omega arith })
    (λ v w. let m = mapped _ (letter_key l) e w in key_letter l m.0 m.1)
    z) y) h

pair_letter : (n m l : ℕ) (e : Event) → pair_event n m l ≡ Some e → IsLetter l
pair_letter n m l e h =
    split (eqb l 126) _ _ e (λ t x. let is : l ≡ 126 = eqb-true l 126 t in record { low = omega arith; high = omega arith })
    (λ t y. split (eqb n 1) _ _ e (λ u x. let k = held_is_key m (letter_key l) e x in key_letter l k.0 k.1)
    (λ u z. let is : l ≡ 82 = eqb-true l 82 (cond_then (eqb l 82) _ e z).0 in record { low = omega arith; high = omega arith })
    y) h

sequence_letter : (ns : List ℕ) (l : ℕ) (e : Event) → sequence_event ns l ≡ Some e → IsLetter l
sequence_letter [] l e h = alone_letter l e h
sequence_letter (n ∷ []) l e h = let is : l ≡ 126 = eqb-true l 126 (cond_then (eqb l 126) _ e h).0 in record { low = omega arith; high = omega arith }
sequence_letter (n ∷ m ∷ []) l e h = pair_letter n m l e h
sequence_letter (n ∷ r ∷ c ∷ []) l e h =
    let is : l ≡ 116 = eqb-true l 116 (and_parts (eqb n 8) (eqb l 116) (cond_then (eqb n 8 && eqb l 116) _ e h).0).1 in record { low = omega arith; high = omega arith }
sequence_letter (a ∷ b ∷ c ∷ d ∷ ns) l e h = absurd (none-some e h)

kind_letter : (n l : ℕ) → (l ≡ 77 → ⊥) → (l ≡ 109 → ⊥) → mouse_kind n l ≡ None
kind_letter n l no_down no_up = cond-false (eqb l 109) _ _ (ne_eqb l 109 no_up) ∙ cond-false (eqb l 77) _ _ (ne_eqb l 77 no_down)

cell_letter : (n x y l : ℕ) (e : Event) → cell_event n x y l ≡ Some e → IsLetter l
cell_letter n x y l e h =
    let m = mapped _ (mouse_kind (n % 4 + 32 * (n / 32)) l) e (cond_then (leb 1 x && leb x (2 ^ 16) && leb 1 y && leb y (2 ^ 16)) _ e h).1 in
    elim (cases_lt l 64) [
      | inl less ↦ absurd (none-some m.0 (sym (kind_letter (n % 4 + 32 * (n / 32)) l (λ i. omega arith) (λ i. omega arith)) ∙ m.1))
      | inr more ↦ elim (cases_lt 126 l) [
        | inl above ↦ absurd (none-some m.0 (sym (kind_letter (n % 4 + 32 * (n / 32)) l (λ i. omega arith) (λ i. omega arith)) ∙ m.1))
        | inr below ↦ record { low = more; high = below }
      ]
    ]

mouse_letter : (ns : List ℕ) (l : ℕ) (e : Event) → mouse_event ns l ≡ Some e → IsLetter l
mouse_letter [] l e h = absurd (none-some e h)
mouse_letter (n ∷ []) l e h = absurd (none-some e h)
mouse_letter (n ∷ m ∷ []) l e h = absurd (none-some e h)
mouse_letter (n ∷ x ∷ y ∷ []) l e h = cell_letter n x y l e h
mouse_letter (a ∷ b ∷ c ∷ d ∷ ns) l e h = absurd (none-some e h)

-- ---- numbers and semicolons

abbrev AreParameters : List ℕ → Type 0
AreParameters [] = Unit {0}
AreParameters (b ∷ bytes) = (48 ≤ b) × (b ≤ 59) × AreParameters bytes

both_parameters : (xs ys : List ℕ) → AreParameters xs → AreParameters ys → AreParameters (xs ++ ys)
both_parameters [] ys h g = g
both_parameters (x ∷ xs) ys h g = (h.0, h.1, both_parameters xs ys h.2 g)

decimal_parameters : (n : ℕ) → n < 2 ^ 64 → AreParameters (decimal n)
decimal_parameters = decimal_by_steps (λ n ds. AreParameters ds) (λ n h. (omega arith, omega arith, tt))
    (λ n ds some ih. both_parameters ds ((48 + n % 10) ∷ []) ih (omega arith, omega arith, tt))

rest_parameters : (ns : List ℕ) → AreSmall ns → AreParameters (flat_map (λ m. 59 ∷ decimal m) ns)
rest_parameters [] small = tt
rest_parameters (n ∷ ns) small = both_parameters (59 ∷ decimal n) _ (omega arith, omega arith, decimal_parameters n (omega (arith, small.0))) (rest_parameters ns small.1)

numbers_parameters : (ns : List ℕ) → AreSmall ns → AreParameters (numbers_bytes ns)
numbers_parameters [] small = tt
numbers_parameters (n ∷ ns) small = both_parameters (decimal n) _ (decimal_parameters n (omega (arith, small.0))) (rest_parameters ns small.1)

-- the first of these bytes is no `[` and no `M`
abbrev IsPlain : List ℕ → Type 0
IsPlain [] = Unit {0}
IsPlain (a ∷ w) = (a ≢ 91) × (a ≢ 77)

plain_more : (w : List ℕ) (b : ℕ) → IsPlain w → b ≤ 59 ⊎ (b ≡ 60) → IsPlain (w ++ b ∷ [])
plain_more [] b h (inl less) = (λ e. omega arith, λ e. omega arith)
plain_more [] b h (inr is) = (λ e. omega arith, λ e. omega arith)
plain_more (a ∷ w) b h g = h

among : (w : List ℕ) (b : ℕ) → IsPlain w → b ≢ 91 → b ≢ 77 → step_of (27 ∷ 91 ∷ w) b ≡ among_step b
among [] b h i j = cond-false (eqb b 77 || eqb b 91) Waits (among_step b) (grind (arith, nat_tests))
among (a ∷ w) b h i j = cond-false (eqb a 91) _ _ (ne_eqb a 91 h.0) ∙ cond-false (eqb a 77) _ _ (ne_eqb a 77 h.1)

among_ends : (b : ℕ) → IsLetter b → among_step b ≡ Ends
among_ends b h =
    cond-false (leb 32 b && leb b 63) _ _ (grind (arith, nat_tests, h.low, h.high)) ∙ cond-true (leb 64 b && leb b 126) _ _ (grind (arith, nat_tests, h.low, h.high))

among_waits : (b : ℕ) → 48 ≤ b → b ≤ 60 → among_step b ≡ Waits
among_waits b low high = cond-true (leb 32 b && leb b 63) _ _ (grind (arith, nat_tests))

no_cons : (c : ℕ) (bytes : List ℕ) → c ∷ bytes ≡ [] → ⊥
no_cons c bytes e = let n : length (c ∷ bytes) ≡ 0 = ap length e in omega arith

no_last : (w : List ℕ) (b : ℕ) → w ++ b ∷ [] ≡ [] → ⊥
no_last w b e = let n : length (w ++ b ∷ []) ≡ 0 = ap length e in omega (arith, length-append w (b ∷ []))

nonempty : (w : List ℕ) (b l : ℕ) → w ++ b ∷ [] ≡ [] → (l ≢ 91) × (l ≢ 77)
nonempty w b l e = absurd (no_last w b e)

-- a front with numbers, which they and a letter go on
numbers_run : (bytes w : List ℕ) (l : ℕ) → IsPlain w → AreParameters bytes → IsLetter l → (bytes ++ w ≡ [] → (l ≢ 91) × (l ≢ 77)) → IsRun (27 ∷ 91 ∷ w) (bytes ++ l ∷ [])
numbers_run [] [] l plain are is h = let k = h refl in among [] l plain k.0 k.1 ∙ among_ends l is
numbers_run [] (a ∷ w) l plain are is h = cond-false (eqb a 91) _ _ (ne_eqb a 91 plain.0) ∙ cond-false (eqb a 77) _ _ (ne_eqb a 77 plain.1) ∙ among_ends l is
numbers_run (b ∷ []) w l plain are is h =
    (among w b plain (λ e. omega (arith, are.1)) (λ e. omega (arith, are.1)) ∙ among_waits b are.0 (omega (arith, are.1)), numbers_run [] (w ++ b ∷ []) l (plain_more w b plain (inl are.1)) tt is (nonempty w b l))
numbers_run (b ∷ c ∷ bytes) w l plain are is h = (
  among w b plain (λ e. omega (arith, are.1)) (λ e. omega (arith, are.1)) ∙ among_waits b are.0 (omega (arith, are.1)),
  numbers_run (c ∷ bytes) (w ++ b ∷ []) l (plain_more w b plain (inl are.1)) are.2 is (λ e. absurd (no_cons c (bytes ++ (w ++ b ∷ [])) e)),
)

-- ---- the forms

not_marks : (l : ℕ) (e : Event) → letter_event l ≡ Some e → (l ≢ 91) × (l ≢ 77)
not_marks l e h = (λ i. none-some e (sym (ap letter_event i) ∙ h), λ i. none-some e (sym (ap letter_event i) ∙ h))

no_numbers : (ns : List ℕ) (l : ℕ) (e : Event) → AreSmall ns → sequence_event ns l ≡ Some e → numbers_bytes ns ++ [] ≡ [] → (l ≢ 91) × (l ≢ 77)
no_numbers [] l e small h i = not_marks l e h
no_numbers (n ∷ ns) l e small h i =
    let none : length (numbers_bytes (n ∷ ns) ++ []) ≡ 0 = ap length i in
    absurd (omega (arith, length-append (numbers_bytes (n ∷ ns)) [], length-append (decimal n) (flat_map (λ m. 59 ∷ decimal m) ns), decimal_nonempty n (omega (arith, small.0))))

two_more : (bytes : List ℕ) (l : ℕ) → IsRun (27 ∷ 91 ∷ []) (bytes ++ l ∷ []) → IsRun [] (27 ∷ 91 ∷ (bytes ++ l ∷ []))
two_more [] l h = (refl, (refl, h))
two_more (b ∷ bytes) l h = (refl, (refl, h))

three_more : (bytes : List ℕ) (l : ℕ) → IsRun (27 ∷ 91 ∷ 60 ∷ []) (bytes ++ l ∷ []) → IsRun [] (27 ∷ 91 ∷ 60 ∷ (bytes ++ l ∷ []))
three_more [] l h = (refl, (refl, (refl, h)))
three_more (b ∷ bytes) l h = (refl, (refl, (refl, h)))

sequence_run : (bs : List ℕ) (e : Event) → IsSequenceBytes e bs → IsRun [] bs
sequence_run bs e h =
    subst (λ (l : List ℕ). IsRun [] l) (sym h.written)
    (two_more (numbers_bytes h.numbers) h.letter (numbers_run (numbers_bytes h.numbers) [] h.letter tt (numbers_parameters h.numbers h.small) (sequence_letter h.numbers h.letter e h.told) (no_numbers h.numbers h.letter e h.small h.told)))

mouse_run : (bs : List ℕ) (e : Event) → IsMouseBytes e bs → IsRun [] bs
mouse_run bs e h =
    subst (λ (l : List ℕ). IsRun [] l) (sym h.written)
    (three_more (numbers_bytes h.numbers) h.letter (numbers_run (numbers_bytes h.numbers) (60 ∷ []) h.letter (λ i. omega arith, λ i. omega arith) (numbers_parameters h.numbers h.small) (mouse_letter h.numbers h.letter e h.told)
    (λ i. absurd (no_last (numbers_bytes h.numbers) 60 i))))

application_run : (bs : List ℕ) (e : Event) → IsApplicationBytes e bs → IsRun [] bs
application_run bs e h =
    let m = mapped _ (letter_key h.letter) e h.told in
    subst (λ (l : List ℕ). IsRun [] l) (sym h.written) (refl, (refl, among_ends h.letter (key_letter h.letter m.0 m.1)))

console_run : (bs : List ℕ) (e : Event) → IsConsoleBytes e bs → IsRun [] bs
console_run bs e h =
    let m = mapped _ (console_key h.letter) e h.told in
    let t = and_parts (leb 65 h.letter) (leb h.letter 69) (cond_then (leb 65 h.letter && leb h.letter 69) _ m.0 m.1).0 in
    let low : 65 ≤ h.letter = leb-true 65 h.letter t.0 in
    let high : h.letter ≤ 69 = leb-true h.letter 69 t.1 in
    subst (λ (l : List ℕ). IsRun [] l) (sym h.written) (refl, (refl, (refl, cond-true (leb 64 h.letter && leb h.letter 126) Ends Breaks (grind (arith, nat_tests)))))

-- the bytes of a sequence, alone in a block, are its event
pub sequence_alone : (bs : List ℕ) (e : Event) → IsSequenceBytes e bs ⊎ IsMouseBytes e bs ⊎ IsApplicationBytes e bs ⊎ IsConsoleBytes e bs → IsBlock [] bs (e ∷ []) []
sequence_alone bs e (inl h) = run_block bs e (sequence_run bs e h) (inr (inr (inr (inl h))))
sequence_alone bs e (inr (inl h)) = run_block bs e (mouse_run bs e h) (inr (inr (inr (inr (inl h)))))
sequence_alone bs e (inr (inr (inl h))) = run_block bs e (application_run bs e h) (inr (inr (inr (inr (inr (inl h))))))
sequence_alone bs e (inr (inr (inr h))) = run_block bs e (console_run bs e h) (inr (inr (inr (inr (inr (inr h))))))
