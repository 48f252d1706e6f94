-- The exits of a call that makes its bytes before it puts any.
use Rattle.std.proofs.Common.{◌≡◌, ℕ, List, [], ◌++◌, Option, Some, None, Result, ap, ◌∙◌, subst}
use Rattle.std.specs.Result.{IsErrAnd}
use Rattle.mad_term.specs.declared.errors.Error.{Error}
use Rattle.mad_term.specs.declared.errors.Error.TheVariants.{Memory}
use Rattle.mad_term.specs.Trace.{Trace}
use Rattle.mad_term.specs.Draws.{Draws, DrawsDisplayed}
use Rattle.mad_term.proofs.Exits.{refused_exit}
use Rattle.mad_term.proofs.Traces.{stopped_before}

-- memory was wanted before the first byte
pub memory_first : {T : Type 0} (r : Result T Error) (old : Trace) (text : List ℕ) → IsErrAnd r (λ e. e ≡ Memory) → Draws old text r old
memory_first r old text h = refused_exit r Memory old old text h (stopped_before old text)

-- what was put had been made in an empty text
pub made_first : {T : Type 0} (r : Result T Error) (old new : Trace) (start made put text : List ℕ) → start ≡ [] → made ≡ start ++ text → put ≡ made → Draws old put r new → Draws old text r new
made_first {T} r old new start made put text empty adds same h =
    subst (λ (s : List ℕ). Draws old s r new) (same ∙ adds ∙ ap (λ (s : List ℕ). s ++ text) empty) h

-- memory was wanted before the first byte of what a value displays
pub memory_before_displayed : {T : Type 0} (told : Option (List ℕ)) (r : Result T Error) (old : Trace) → IsErrAnd r (λ e. e ≡ Memory) → DrawsDisplayed old told r old
memory_before_displayed None r old h = ([], memory_first r old [] h)
memory_before_displayed (Some text) r old h = memory_first r old text h
