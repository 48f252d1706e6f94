-- How an answer ends.
use Rattle.std.proofs.Common.{◌≡◌, ◌∙◌, ℕ, List, Option, Some, None, Result, Ok, Err, refl, ap, sym, subst, inl, inr, option_map}
use Rattle.std.specs.Borrow.{Bor}
use Rattle.std.specs.Result.{IsErrAnd}
use Rattle.std.proofs.lemmas.Result.{err_from_is_err_and}
use Rattle.mad_term.specs.Draws.{Refused}
use Rattle.mad_term.specs.Trace.{Trace, after, failed, flushed}
use Rattle.mad_term.specs.declared.errors.Error.{Error}
use Rattle.termimad_run.specs.Answering.{DoesAsked, HasAnswered, WritesAnswer}
use Rattle.termimad_words.specs.Failures.{SaysOnce, failure_line, failure_of, status_of}
use Rattle.termimad_run.specs.ProgramRuns.{Devices, HasRun}
use Rattle.termimad_words.specs.declared.failure.Failure.{Failure}
use Rattle.termimad_words.specs.declared.failure.Failure.TheVariants.{Io}

-- the text was refused
pub answer_refused : {T : Type 0} (text : List ℕ) (r : Result T Failure) (e : Error) (old new : Trace) → IsErrAnd r (λ f. f ≡ failure_of e) → Refused old text e new
    → WritesAnswer text old r new
answer_refused {T} text r e old new is h =
    let p = err_from_is_err_and r is in
    subst (λ (s : Result T Failure). WritesAnswer text old s new) (sym (p.1 ∙ ap Err p.2)) (inr (e, refl, h))

-- the flush failed
pub answer_unflushed : {T : Type 0} (text : List ℕ) (r : Result T Failure) (old written new : Trace) → IsErrAnd r (λ f. f ≡ Io) → written ≡ after old text → new ≡ failed written
    → WritesAnswer text old r new
answer_unflushed {T} text r old written new is w h =
    let p = err_from_is_err_and r is in
    subst (λ (s : Result T Failure). WritesAnswer text old s new) (sym (p.1 ∙ ap Err p.2)) (inl (refl, h ∙ ap failed w))

-- it was written
pub answer_written : (text : List ℕ) (old new err : Trace) → WritesAnswer {T = Unit {0}} text old (Ok (tt {0})) new → HasAnswered text old err 0 new err
answer_written text old new err h = record { outcome = Ok (tt {0}); wrote = h; answered = (refl, refl) }

-- a failure is said
pub answer_failed : (text : List ℕ) (failure : Failure) (old new old_err new_err : Trace) (status : ℕ) → WritesAnswer {T = Unit {0}} text old (Err failure) new
    → status ≡ status_of failure → SaysOnce old_err (failure_line failure) new_err → HasAnswered text old old_err status new new_err
answer_failed text failure old new old_err new_err status h s said = record { outcome = Err failure; wrote = h; answered = (s, said) }

-- an answer that is asked for is written
pub answer_done : (asked : Option (List ℕ)) (given : Option (Bor (List ℕ))) (text : Bor (List ℕ)) (words : List (List ℕ)) (old new : Devices) (status : ℕ)
    → option_map (λ (text : Bor (List ℕ)). text.now) given ≡ asked → given ≡ Some text → HasAnswered text.now old.out old.err status new.out new.err
    → new.input ≡ old.input → DoesAsked asked words old status new
answer_done asked given text words old new status e is h same =
    subst (λ (asked : Option (List ℕ)). DoesAsked asked words old status new) (ap (option_map (λ (text : Bor (List ℕ)). text.now)) (sym is) ∙ e) (h, same)

-- none is asked for
pub none_done : (asked : Option (List ℕ)) (given : Option (Bor (List ℕ))) (words : List (List ℕ)) (old new : Devices) (status : ℕ)
    → option_map (λ (text : Bor (List ℕ)). text.now) given ≡ asked → given ≡ None → HasRun words old status new → DoesAsked asked words old status new
none_done asked given words old new status e is h =
    subst (λ (asked : Option (List ℕ)). DoesAsked asked words old status new) (ap (option_map (λ (text : Bor (List ℕ)). text.now)) (sym is) ∙ e) h
