-- The arms of the decoder.
use Rattle.std.proofs.Common.{◌≡◌, ℕ, Bool, true, false, cond, eqb, List, [], ◌∷◌, ◌++◌, Option, Some, None, refl, ap, ◌∙◌, sym, subst}
use Rattle.std.proofs.lemmas.Option.{none-some}
use Rattle.mad_term.specs.declared.events.Event.{Event}
use Rattle.mad_term.specs.declared.events.Event.TheVariants.{Key}
use Rattle.mad_keys.specs.Keys.{escape_key}
use Rattle.mad_keys.specs.declared.steps.Step.{Step}
use Rattle.mad_keys.specs.declared.steps.Step.TheVariants.{Waits, Ends, Breaks}
use Rattle.mad_keys.specs.Steps.{step_of}
use Rattle.mad_keys.specs.EventBytes.{IsEventOf}
use Rattle.mad_keys.specs.Readings.{lone_escape, after_pause}
use Rattle.mad_keys.specs.Decoding.{kept, AfreshGives, BrokenGives, StepGives, ByteGives}

-- by the front's step, whatever it is
at_step : (w : List ℕ) (b : ℕ) (s : Step) (event : Option Event) (left : List ℕ) → step_of w b ≡ s → StepGives s w b event left → ByteGives w b event left
at_step w b s event left e h = subst (λ (t : Step). StepGives t w b event left) (sym e) h

-- a byte by which the front grows is kept
pub waits : (w : List ℕ) (b : ℕ) (s : Step) (left : List ℕ) → s ≡ step_of w b → s ≡ Waits → left ≡ kept (w ++ b ∷ []) → ByteGives w b None left
waits w b s left e is l = at_step w b Waits None left (sym e ∙ is) (refl, l)

-- a byte that ends the front gives its event, and nothing waits
pub ends : (w : List ℕ) (b : ℕ) (s : Step) (event : Option Event) (left : List ℕ) → s ≡ step_of w b → s ≡ Ends → IsEventOf (w ++ b ∷ []) event → left ≡ [] → ByteGives w b event left
ends w b s event left e is t l = at_step w b Ends event left (sym e ∙ is) (t, l)

lone_is_at : (t : Bool) (a : ℕ) (event : Event) → cond t (Some (Key escape_key)) None ≡ Some event → cond t [] (a ∷ []) ≡ []
lone_is_at true a event h = refl
lone_is_at false a event h = absurd (none-some event h)

lone_is : (w : List ℕ) (event : Event) → lone_escape w ≡ Some event → after_pause w ≡ []
lone_is [] event h = absurd (none-some event h)
lone_is (a ∷ []) event h = lone_is_at (eqb a 27) a event h
lone_is (a ∷ b ∷ w) event h = absurd (none-some event h)

-- a byte that breaks off a lone ESC gives Esc, and waits
pub breaks_escape : (w : List ℕ) (b : ℕ) (s : Step) (event : Event) (paused left : List ℕ) → s ≡ step_of w b → s ≡ Breaks → Some event ≡ lone_escape w → paused ≡ after_pause w → left ≡ kept (paused ++ b ∷ []) → ByteGives w b (Some event) left
breaks_escape w b s event paused left e is lone p l =
    at_step w b Breaks (Some event) left (sym e ∙ is)
    (subst (λ (o : Option Event). BrokenGives o b (Some event) left) lone (refl, l ∙ ap (λ x. kept (x ++ b ∷ [])) (p ∙ lone_is w event (sym lone))))

-- a byte that breaks off any other front is read as if nothing had waited
pub breaks : (w : List ℕ) (b : ℕ) (s : Step) (event : Option Event) (left : List ℕ) → s ≡ step_of w b → s ≡ Breaks → None ≡ lone_escape w → AfreshGives (step_of [] b) b event left → ByteGives w b event left
breaks w b s event left e is none h = at_step w b Breaks event left (sym e ∙ is) (subst (λ (o : Option Event). BrokenGives o b event left) none h)

not_waiting : (s : Step) (b : ℕ) (event : Option Event) (left : List ℕ) → (s ≡ Waits → ⊥) → IsEventOf (b ∷ []) event → left ≡ [] → AfreshGives s b event left
not_waiting Waits b event left other t l = absurd (other refl)
not_waiting Ends b event left other t l = (t, l)
not_waiting Breaks b event left other t l = (t, l)

-- a byte that is an item by itself, where nothing waited
pub afresh_ends : (w : List ℕ) (b : ℕ) (s : Step) (event : Option Event) (left : List ℕ) → w ≡ [] → s ≡ step_of [] b → (s ≡ Waits → ⊥) → IsEventOf (w ++ b ∷ []) event → left ≡ [] → AfreshGives (step_of [] b) b event left
afresh_ends w b s event left none e other t l =
    not_waiting (step_of [] b) b event left (λ i. other (e ∙ i)) (subst (λ (x : List ℕ). IsEventOf (x ++ b ∷ []) event) none t) l
