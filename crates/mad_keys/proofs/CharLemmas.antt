-- The bytes of a character are one item.
use Rattle.std.proofs.Common.{◌≡◌, ◌≢◌, ◌⊎◌, inl, inr, ℕ, ◌+◌, ◌/◌, ◌%◌, ◌<◌, ◌≤◌, true, ltb, leb, eqb, List, [], ◌∷◌, ◌++◌, length, refl, ap, ◌∙◌, sym, subst, arith, append_assoc, Some}
use Rattle.std.specs.Prelude.{◌&&◌, ◌||◌, encode_utf8}
use Rattle.std.specs.Char.{IsScalar}
use Rattle.std.proofs.lemmas.Bool.{cond-true, cond-false, cond_both, ne_eqb, eqb-true, and_from, le-leb, ltb-true, ltb-false, lt-ltb, le-ltb, eq-eqb}
use Rattle.std.proofs.lemmas.Bool.Decides.{nat_tests}
use Rattle.mad_term.specs.declared.events.Event.{Event}
use Rattle.mad_term.specs.declared.events.Event.TheVariants.{Key}
use Rattle.mad_keys.specs.Keys.{escape_key}
use Rattle.mad_keys.specs.declared.steps.Step.{Step}
use Rattle.mad_keys.specs.declared.steps.Step.TheVariants.{Waits, Ends, Breaks}
use Rattle.mad_keys.specs.Steps.{char_length, least_second, greatest_second, goes_on, char_step, step_of}
use Rattle.mad_keys.specs.EventBytes.{IsEventBytes}
use Rattle.mad_keys.specs.Readings.{IsBlock}
use Rattle.mad_keys.proofs.AloneLemmas.{IsRun, run_block, sequence_alone}
use Rattle.std.proofs.Math.Utf8.{encode, scalar_cases}

-- ---- a front of a character, after these bytes

-- what comes before a character whose first byte is this one: nothing, or ESC
abbrev IsBefore : List ℕ → ℕ → Type 0
IsBefore p a = (p ≡ []) ⊎ ((p ≡ 27 ∷ []) × (a ≢ 91) × (a ≢ 79))

begins : (p : List ℕ) (a : ℕ) → IsBefore p a → a ≢ 27 → step_of p a ≡ char_step [] a
begins p a (inl e) other = ap (λ w. step_of w a) e ∙ cond-false (eqb a 27) Waits (char_step [] a) (ne_eqb a 27 other)
begins p a (inr e) other =
    let bracket : a ≢ 91 = e.1 in
    let application : a ≢ 79 = e.2 in
    ap (λ w. step_of w a) e.0 ∙ cond-false (eqb a 27) _ _ (ne_eqb a 27 other) ∙ cond-false (eqb a 79 || eqb a 91) Waits (char_step [] a) (grind (arith, nat_tests))

goes : (p : List ℕ) (a : ℕ) (w : List ℕ) (b : ℕ) → IsBefore p a → a ≢ 27 → step_of (p ++ a ∷ w) b ≡ char_step (a ∷ w) b
goes p a w b (inl e) other = ap (λ q. step_of (q ++ a ∷ w) b) e ∙ cond-false (eqb a 27) _ _ (ne_eqb a 27 other)
goes p a w b (inr e) other =
    ap (λ q. step_of (q ++ a ∷ w) b) e.0 ∙ cond-false (eqb a 91) _ _ (ne_eqb a 91 e.1) ∙ cond-false (eqb a 79) _ _ (ne_eqb a 79 e.2)

before_high : (p : List ℕ) (c a : ℕ) → IsBefore p c → 128 ≤ a → IsBefore p a
before_high p c a (inl e) h = inl e
before_high p c a (inr e) h = inr (e.0, λ i. omega arith, λ i. omega arith)

lead_waits : (a : ℕ) → 194 ≤ a → a ≤ 244 → char_step [] a ≡ Waits
lead_waits a low high = cond-true (leb 194 a && leb a 244) Waits Ends (grind (arith, nat_tests))

ascii_ends : (a : ℕ) → a < 128 → char_step [] a ≡ Ends
ascii_ends a low = cond-false (leb 194 a && leb a 244) Waits Ends (grind (arith, nat_tests))

-- ---- how long, and which second byte

two_long : (a : ℕ) → a < 224 → char_length a ≡ 2
two_long a h = cond-true (ltb a 224) 2 _ (lt-ltb a 224 h)

three_long : (a : ℕ) → 224 ≤ a → a < 240 → char_length a ≡ 3
three_long a low high = cond-false (ltb a 224) 2 _ (le-ltb a 224 low) ∙ cond-true (ltb a 240) 3 4 (lt-ltb a 240 high)

four_long : (a : ℕ) → 240 ≤ a → char_length a ≡ 4
four_long a low = cond-false (ltb a 224) 2 _ (le-ltb a 224 (omega arith)) ∙ cond-false (ltb a 240) 3 4 (le-ltb a 240 low)

-- a second byte within its bounds
second_fits : (a b : ℕ) → 128 ≤ b → b ≤ 191 → (a ≡ 224 → 160 ≤ b) → (a ≡ 240 → 144 ≤ b) → (a ≡ 237 → b ≤ 159) → (a ≡ 244 → b ≤ 143) → goes_on a [] b ≡ true
second_fits a b low high e0 f0 ed f4 =
    let least : least_second a ≤ b = cond_both (eqb a 224) 160 _ (λ n. n ≤ b) (λ t. e0 (eqb-true a 224 t)) (λ t. cond_both (eqb a 240) 144 128 (λ n. n ≤ b) (λ u. f0 (eqb-true a 240 u)) (λ u. low)) in
    let most : b ≤ greatest_second a = cond_both (eqb a 237) 159 _ (λ n. b ≤ n) (λ t. ed (eqb-true a 237 t)) (λ t. cond_both (eqb a 244) 143 191 (λ n. b ≤ n) (λ u. f4 (eqb-true a 244 u)) (λ u. high)) in
    and_from (leb (least_second a) b) (leb b (greatest_second a)) (le-leb (least_second a) b least) (le-leb b (greatest_second a) most)

next_fits : (a c : ℕ) (w : List ℕ) (b : ℕ) → 128 ≤ b → b ≤ 191 → goes_on a (c ∷ w) b ≡ true
next_fits a c w b low high = and_from (leb 128 b) (leb b 191) (le-leb 128 b low) (le-leb b 191 high)

stops : (a : ℕ) (w : List ℕ) (b : ℕ) → goes_on a w b ≡ true → char_length a ≡ length w + 2 → char_step (a ∷ w) b ≡ Ends
stops a w b fits long =
    cond-true (goes_on a w b) _ Breaks fits ∙ cond-true (eqb (length w + 2) (char_length a)) Ends Waits (eq-eqb (length w + 2) (char_length a) (sym long))

stays : (a : ℕ) (w : List ℕ) (b : ℕ) → goes_on a w b ≡ true → (length w + 2 ≡ char_length a → ⊥) → char_step (a ∷ w) b ≡ Waits
stays a w b fits long =
    cond-true (goes_on a w b) _ Breaks fits ∙ cond-false (eqb (length w + 2) (char_length a)) Ends Waits (ne_eqb (length w + 2) (char_length a) long)

-- ---- the bytes of a character

-- the bits of the last six, as a byte
abbrev tail : ℕ → ℕ
tail bits = 128 + bits % 64

three_not_two : ◌≡◌ {A = ℕ} 2 3 → ⊥
three_not_two e = omega arith

four_not_two : ◌≡◌ {A = ℕ} 2 4 → ⊥
four_not_two e = omega arith

four_not_three : ◌≡◌ {A = ℕ} 3 4 → ⊥
four_not_three e = omega arith

regrouped : (p : List ℕ) (a : ℕ) (w : List ℕ) (b : ℕ) (s : Step) → step_of (p ++ a ∷ w) b ≡ s → step_of ((p ++ a ∷ []) ++ w) b ≡ s
regrouped p a w b s h = ap (λ l. step_of l b) (append_assoc p (a ∷ []) w) ∙ h

regrouped_twice : (p : List ℕ) (a d : ℕ) (w : List ℕ) (b : ℕ) (s : Step) → step_of (p ++ a ∷ d ∷ w) b ≡ s → step_of (((p ++ a ∷ []) ++ d ∷ []) ++ w) b ≡ s
regrouped_twice p a d w b s h = ap (λ l. step_of l b) (append_assoc (p ++ a ∷ []) (d ∷ []) w ∙ append_assoc p (a ∷ []) (d ∷ w)) ∙ h

one_run : (p : List ℕ) (c : ℕ) → IsBefore p c → c ≢ 27 → c < 128 → IsRun p (c ∷ [])
one_run p c before other small = begins p c before other ∙ ascii_ends c small

two_bytes : (p : List ℕ) (a b : ℕ) → IsBefore p a → 194 ≤ a → a < 224 → 128 ≤ b → b ≤ 191 → IsRun p (a ∷ b ∷ [])
two_bytes p a b before low high from to = (
  begins p a before (λ e. omega arith) ∙ lead_waits a (omega arith) (omega arith),
  goes p a [] b before (λ e. omega arith)
      ∙ stops a [] b (second_fits a b from to (λ e. omega arith) (λ e. omega arith) (λ e. omega arith) (λ e. omega arith)) (two_long a high),
)

three_bytes : (p : List ℕ) (a b d : ℕ) → IsBefore p a → 224 ≤ a → a < 240 → goes_on a [] b ≡ true → 128 ≤ d → d ≤ 191 → IsRun p (a ∷ b ∷ d ∷ [])
three_bytes p a b d before low high second from to =
    let long : char_length a ≡ 3 = three_long a low high in (
      begins p a before (λ e. omega arith) ∙ lead_waits a (omega arith) (omega arith),
      (
        goes p a [] b before (λ e. omega arith) ∙ stays a [] b second (λ e. three_not_two (e ∙ long)),
        regrouped p a (b ∷ []) d Ends (goes p a (b ∷ []) d before (λ e. omega arith) ∙ stops a (b ∷ []) d (next_fits a b [] d from to) long),
      ),
    )

four_bytes : (p : List ℕ) (a b d f : ℕ) → IsBefore p a → 240 ≤ a → a ≤ 244 → goes_on a [] b ≡ true → 128 ≤ d → d ≤ 191 → 128 ≤ f → f ≤ 191 → IsRun p (a ∷ b ∷ d ∷ f ∷ [])
four_bytes p a b d f before low high second d_from d_to f_from f_to =
    let long : char_length a ≡ 4 = four_long a low in (
      begins p a before (λ e. omega arith) ∙ lead_waits a (omega arith) (omega arith),
      (
        goes p a [] b before (λ e. omega arith) ∙ stays a [] b second (λ e. four_not_two (e ∙ long)),
        (
          regrouped p a (b ∷ []) d Waits (goes p a (b ∷ []) d before (λ e. omega arith) ∙ stays a (b ∷ []) d (next_fits a b [] d d_from d_to) (λ e. four_not_three (e ∙ long))),
          regrouped_twice p a b (d ∷ []) f Ends (goes p a (b ∷ d ∷ []) f before (λ e. omega arith) ∙ stops a (b ∷ d ∷ []) f (next_fits a b (d ∷ []) f f_from f_to) long),
        ),
      ),
    )

two_run : (p : List ℕ) (c : ℕ) → IsBefore p c → 128 ≤ c → c < 2048 → IsRun p ((192 + c / 64) ∷ tail c ∷ [])
two_run p c before low high =
    two_bytes p (192 + c / 64) (tail c) (before_high p c (192 + c / 64) before (omega arith)) (omega arith) (omega arith) (omega arith) (omega arith)

no_surrogate : (c : ℕ) → (c < 55296) ⊎ (57344 ≤ c) → 224 + c / 4096 ≡ 237 → 128 + c / 64 % 64 ≤ 159
no_surrogate c (inl less) e = omega arith
no_surrogate c (inr more) e = omega arith

three_run : (p : List ℕ) (c : ℕ) → IsBefore p c → 2048 ≤ c → c < 65536 → (c < 55296) ⊎ (57344 ≤ c) → IsRun p ((224 + c / 4096) ∷ tail (c / 64) ∷ tail c ∷ [])
three_run p c before low high scalar =
    three_bytes p (224 + c / 4096) (tail (c / 64)) (tail c) (before_high p c (224 + c / 4096) before (omega arith)) (omega arith) (omega arith)
    (second_fits (224 + c / 4096) (tail (c / 64)) (omega arith) (omega arith) (λ e. omega arith) (λ e. omega arith) (λ e. no_surrogate c scalar e) (λ e. omega arith))
    (omega arith) (omega arith)

four_run : (p : List ℕ) (c : ℕ) → IsBefore p c → 65536 ≤ c → c < 1114112 → IsRun p ((240 + c / 262144) ∷ tail (c / 4096) ∷ tail (c / 64) ∷ tail c ∷ [])
four_run p c before low high =
    four_bytes p (240 + c / 262144) (tail (c / 4096)) (tail (c / 64)) (tail c) (before_high p c (240 + c / 262144) before (omega arith)) (omega arith) (omega arith)
    (second_fits (240 + c / 262144) (tail (c / 4096)) (omega arith) (omega arith) (λ e. omega arith) (λ e. omega arith) (λ e. omega arith) (λ e. omega arith))
    (omega arith) (omega arith) (omega arith) (omega arith)

char_run : (p : List ℕ) (c : ℕ) → IsBefore p c → IsScalar c → c ≢ 27 → IsRun p (encode c)
unfolding encode
char_run p c before s other =
    let range = scalar_cases c s in
    cond_both (ltb c 128) (c ∷ []) _ (λ l. IsRun p l) (λ t. one_run p c before other (ltb-true c 128 t))
    (λ t. let big : 128 ≤ c = ltb-false c 128 t in
    cond_both (ltb c 2048) ((192 + c / 64) ∷ tail c ∷ []) _ (λ l. IsRun p l) (λ u. two_run p c before big (ltb-true c 2048 u))
    (λ u. let bigger : 2048 ≤ c = ltb-false c 2048 u in
    cond_both (ltb c 65536) ((224 + c / 4096) ∷ tail (c / 64) ∷ tail c ∷ []) ((240 + c / 262144) ∷ tail (c / 4096) ∷ tail (c / 64) ∷ tail c ∷ []) (λ l. IsRun p l)
    (λ v. three_run p c before bigger (ltb-true c 65536 v) (elim range [ inl less ↦ inl less | inr more ↦ inr more.0 ]))
    (λ v. let biggest : 65536 ≤ c = ltb-false c 65536 v in
    four_run p c before biggest (elim range [ inl less ↦ omega arith | inr more ↦ more.1 ]))))

-- ---- events

after_escape : (bytes : List ℕ) → IsRun (27 ∷ []) bytes → IsRun [] (27 ∷ bytes)
after_escape [] h = absurd h
after_escape (b ∷ bytes) h = (refl, h)

lone : IsBlock [] (27 ∷ []) (Key escape_key ∷ []) []
lone = record { items = []; before = 27 ∷ []; read = (refl, refl); told = (Some (Key escape_key), [], refl, refl, refl); left = refl }

-- the bytes of any event, alone in a block, are that event
pub event_alone : (bs : List ℕ) (e : Event) → IsEventBytes e bs → IsBlock [] bs (e ∷ []) []
event_alone bs e (inl h) = subst (λ (l : List ℕ). IsBlock [] l (e ∷ []) []) (sym h.0) (subst (λ (f : Event). IsBlock [] (27 ∷ []) (f ∷ []) []) (sym h.1) lone)
event_alone bs e (inr (inl h)) = run_block bs e (subst (λ (l : List ℕ). IsRun [] l) (sym h.written) (char_run [] h.char (inl refl) h.scalar h.no_escape)) (inr (inl h))
event_alone bs e (inr (inr (inl h))) =
    run_block bs e (subst (λ (l : List ℕ). IsRun [] l) (sym h.written)
    (after_escape (encode_utf8 h.char) (char_run (27 ∷ []) h.char (inr (refl, h.no_bracket, h.no_application)) h.scalar h.no_escape)))
    (inr (inr (inl h)))
event_alone bs e (inr (inr (inr h))) = sequence_alone bs e h
