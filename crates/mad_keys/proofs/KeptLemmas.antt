-- What is kept of a front goes on as the front does.
use Rattle.std.proofs.Common.{◌≡◌, inl, inr, ℕ, ◌+◌, ◌<◌, ◌≤◌, Bool, true, false, cond, ltb, eqb, List, [], ◌∷◌, ◌++◌, length, take, Option, Some, None, refl, ap, ◌∙◌, sym, subst, arith, length-append}
use Rattle.std.proofs.lemmas.Bool.{cond_both, ne_eqb, le-ltb, cases_lt}
use Rattle.std.proofs.lemmas.List.{take_all, take_at, take-append-le, length-take-le}
use Rattle.mad_term.specs.declared.events.Event.{Event}
use Rattle.mad_keys.specs.declared.steps.Step.TheVariants.{Waits, Ends, Breaks}
use Rattle.mad_keys.specs.Steps.{char_length, goes_on, char_step, among_step, console_step, old_mouse_step, bracket_step, escape_step, step_of}
use Rattle.mad_keys.specs.EventBytes.{IsEventOf}
use Rattle.mad_keys.specs.Readings.{lone_escape, after_pause}
use Rattle.mad_keys.specs.Decoding.{kept}
use Rattle.mad_keys.proofs.ShortLemmas.{event_short}

char_length_most : (a : ℕ) → char_length a ≤ 4
char_length_most a = cond_both (ltb a 224) 2 _ (λ n. n ≤ 4) (λ t. omega arith) (λ t. cond_both (ltb a 240) 3 4 (λ n. n ≤ 4) (λ u. omega arith) (λ u. omega arith))

-- past its third byte a front of a character only waits or breaks
far_char : (a c d e : ℕ) (w : List ℕ) (b : ℕ) → char_step (a ∷ c ∷ d ∷ e ∷ w) b ≡ cond (goes_on a (c ∷ []) b) Waits Breaks
far_char a c d e w b =
    ap (λ t. cond (goes_on a (c ∷ []) b) (cond t Ends Waits) Breaks) (ne_eqb (length (c ∷ d ∷ e ∷ w) + 2) (char_length a) (λ i. omega (arith, i, char_length_most a)))

far_old_mouse : (a c : ℕ) (w : List ℕ) (b : ℕ) → old_mouse_step (a ∷ c ∷ w) b ≡ cond (ltb b 32) Breaks Ends
far_old_mouse a c w b = ap (λ t. cond (ltb b 32) Breaks (cond t Waits Ends)) (le-ltb (length (a ∷ c ∷ w)) 2 (omega arith))

far_bracket : (d e f g : ℕ) (w v : List ℕ) (b : ℕ) → bracket_step (d ∷ e ∷ f ∷ w) b ≡ bracket_step (d ∷ e ∷ f ∷ v) b
far_bracket d e f g w v b = ap (λ s. cond (eqb d 91) (console_step b) (cond (eqb d 77) s (among_step b))) (far_old_mouse e f w b ∙ sym (far_old_mouse e f v b))

far_escape : (c d e f g : ℕ) (w v : List ℕ) (b : ℕ) → escape_step (c ∷ d ∷ e ∷ f ∷ w) b ≡ escape_step (c ∷ d ∷ e ∷ f ∷ v) b
far_escape c d e f g w v b =
    let bracket = far_bracket d e f g w v b in
    let char : char_step (c ∷ d ∷ e ∷ f ∷ w) b ≡ char_step (c ∷ d ∷ e ∷ f ∷ v) b = far_char c d e f w b ∙ sym (far_char c d e f v b) in
    (λ i. cond (eqb c 91) (bracket i) (cond (eqb c 79) (among_step b) (char i)))

far_step : (a c d e f : ℕ) (w v : List ℕ) (b : ℕ) → step_of (a ∷ c ∷ d ∷ e ∷ f ∷ w) b ≡ step_of (a ∷ c ∷ d ∷ e ∷ f ∷ v) b
far_step a c d e f w v b =
    let escape = far_escape c d e f f w v b in
    let char : char_step (a ∷ c ∷ d ∷ e ∷ f ∷ w) b ≡ char_step (a ∷ c ∷ d ∷ e ∷ f ∷ v) b = far_char a c d e (f ∷ w) b ∙ sym (far_char a c d e (f ∷ v) b) in
    (λ i. cond (eqb a 27) (escape i) (char i))

-- a byte does the same to what is kept as to the whole front
pub kept_step : (w : List ℕ) (b : ℕ) → step_of (kept w) b ≡ step_of w b
kept_step [] b = refl
kept_step (a ∷ []) b = refl
kept_step (a ∷ c ∷ []) b = refl
kept_step (a ∷ c ∷ d ∷ []) b = refl
kept_step (a ∷ c ∷ d ∷ e ∷ []) b = refl
kept_step (a ∷ c ∷ d ∷ e ∷ f ∷ w) b = far_step a c d e f (take 13 w) w b

-- what is kept is a lone ESC where the front is one
pub kept_lone : (w : List ℕ) → lone_escape (kept w) ≡ lone_escape w
kept_lone [] = refl
kept_lone (a ∷ []) = refl
kept_lone (a ∷ c ∷ w) = refl

kept_pause_one : (t : Bool) (a : ℕ) → cond t [] (a ∷ []) ≡ kept (cond t [] (a ∷ []))
kept_pause_one true a = refl
kept_pause_one false a = refl

-- a pause leaves of what is kept what is kept of what it leaves
pub kept_pause : (w : List ℕ) → after_pause (kept w) ≡ kept (after_pause w)
kept_pause [] = refl
kept_pause (a ∷ []) = kept_pause_one (eqb a 27) a
kept_pause (a ∷ c ∷ w) = refl

-- one byte more is kept as if all of the front had been
pub kept_more : (w : List ℕ) (b : ℕ) → kept (kept w ++ b ∷ []) ≡ kept (w ++ b ∷ [])
kept_more w b = elim (cases_lt 18 (length w)) [
  | inl more ↦ take_at (take 18 w) (b ∷ []) 18 (length-take-le 18 w (omega arith)) ∙ sym (take-append-le 18 w (b ∷ []) (omega arith))
  | inr few ↦ ap (λ v. kept (v ++ b ∷ [])) (take_all 18 w few)
]

no_long_event : (bs : List ℕ) (o : Option Event) → 18 < length bs → IsEventOf bs o → o ≡ None
no_long_event bs None long h = refl
no_long_event bs (Some e) long h = absurd (omega (arith, event_short bs e h))

long_is_none : (bs : List ℕ) (o : Option Event) → 18 < length bs → o ≡ None → IsEventOf bs o
long_is_none bs o long e = subst (λ (p : Option Event). IsEventOf bs p) (sym e) (λ f h. omega (arith, event_short bs f h))

-- what is kept and a byte are the event that the whole front and the byte are
pub kept_event : (w : List ℕ) (b : ℕ) (o : Option Event) → IsEventOf (kept w ++ b ∷ []) o → IsEventOf (w ++ b ∷ []) o
kept_event w b o h = elim (cases_lt 18 (length w)) [
  | inl more ↦
      let front : length (kept w) ≡ 18 = length-take-le 18 w (omega arith) in
      long_is_none (w ++ b ∷ []) o (omega (arith, length-append w (b ∷ []))) (no_long_event (kept w ++ b ∷ []) o (omega (arith, length-append (kept w) (b ∷ []))) h)
  | inr few ↦ subst (λ (v : List ℕ). IsEventOf (v ++ b ∷ []) o) (take_all 18 w few) h
]
