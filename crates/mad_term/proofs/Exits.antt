-- The exits of a writing call: what it owes where it stops at an error.
use Rattle.std.proofs.Common.{◌≡◌, ℕ, List, ◌++◌, Result, Err, ap, sym, ◌∙◌, subst}
use Rattle.std.specs.Result.{IsErrAnd}
use Rattle.std.proofs.lemmas.Result.{err_from_is_err_and}
use Rattle.mad_term.specs.declared.errors.Error.{Error}
use Rattle.mad_term.specs.declared.errors.Error.TheVariants.{IO, InsufficientWidth, Memory}
use Rattle.mad_term.specs.Trace.{Trace, after}
use Rattle.mad_term.specs.Draws.{Draws, Refused, AndFlushes}
use Rattle.mad_term.proofs.Traces.{cut_in_first, cut_in_second, stopped_in_first, stopped_in_second}

-- at a `?` that made this error
pub refused_exit : {T : Type 0} (r : Result T Error) (e : Error) (old new : Trace) (text : List ℕ) → IsErrAnd r (λ d. d ≡ e) → Refused old text e new → Draws old text r new
refused_exit {T} r e old new text is h =
    let p = err_from_is_err_and r is in
    subst (λ (s : Result T Error). Draws old text s new) (sym (p.1 ∙ ap Err p.2)) h

-- what a writing call had done that was refused after one text and before another
pub refused_between : (e : Error) (old mid new : Trace) (a b c : List ℕ) → mid ≡ after old a → Refused mid b e new → Refused old (a ++ (b ++ c)) e new
refused_between (IO x) old mid new a b c p h = cut_in_second old mid new a (b ++ c) p (cut_in_first mid new b c h)
refused_between (InsufficientWidth x) old mid new a b c p h = absurd h
refused_between Memory old mid new a b c p h = stopped_in_second old mid new a (b ++ c) p (stopped_in_first mid new b c h)

-- a call that was to flush was refused before, or at the flush
pub flushing_refused : {T : Type 0} (writes : Trace → Result T Error → Trace → Type 0) (r : Result T Error) (e : Error) (old new : Trace) → IsErrAnd r (λ d. d ≡ e) → writes old (Err e) new → AndFlushes writes old r new
flushing_refused {T} writes r e old new is h =
    let p = err_from_is_err_and r is in
    subst (λ (s : Result T Error). AndFlushes writes old s new) (sym (p.1 ∙ ap Err p.2)) h

-- what was refused in the first of two texts
pub refused_in_first : (e : Error) (old new : Trace) (a b : List ℕ) → Refused old a e new → Refused old (a ++ b) e new
refused_in_first (IO x) old new a b h = cut_in_first old new a b h
refused_in_first (InsufficientWidth x) old new a b h = absurd h
refused_in_first Memory old new a b h = stopped_in_first old new a b h

-- what was refused in the second
pub refused_in_second : (e : Error) (old mid new : Trace) (a b : List ℕ) → mid ≡ after old a → Refused mid b e new → Refused old (a ++ b) e new
refused_in_second (IO x) old mid new a b p h = cut_in_second old mid new a b p h
refused_in_second (InsufficientWidth x) old mid new a b p h = absurd h
refused_in_second Memory old mid new a b p h = stopped_in_second old mid new a b p h
