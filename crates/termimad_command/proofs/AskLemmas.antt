-- What an error of words makes of a call.
use Rattle.std.proofs.Common.{◌≡◌, ◌≢◌, ◌∙◌, sym, ap, inl, inr, Bool, true, false, true≢false, List, String, Result, Ok, Err, ◌⊎◌}
use Rattle.std.specs.Prelude.{MatchResult}
use Rattle.std.specs.declared.alloc.Global.{Global}
use Rattle.clap.specs.Words.{Text, kind_of}
use Rattle.clap.specs.declared.error.Error.{Error}
use Rattle.clap.specs.declared.error.kind.ErrorKind.{ErrorKind}
use Rattle.clap.specs.declared.error.kind.ErrorKind.TheVariants.{DisplayHelp, DisplayVersion, OutOfMemory}
use Rattle.termimad_options.specs.Calls.{IsAnswer, IsCallOf, IsErrorOf}
use Rattle.termimad_options.specs.declared.calls.Call.{Call}
use Rattle.termimad_command.specs.Calls.{AreMistaken, Asks, AsksAnswer, IsRefusedBy, IsToldBy, RefusesCall, asks_more}
use Rattle.termimad_command.specs.declared.asking.Request.{Request}
use Rattle.termimad_command.specs.declared.asking.Request.TheVariants.{Call as SomeCall, Answer}
use Rattle.termimad_command.specs.declared.refusals.Refusal.{Refusal}
use Rattle.termimad_command.specs.declared.refusals.Refusal.TheVariants.{Mistaken, Undecoded, Lacking, Misplaced, Skin, FaultySkin, Unreadable, NotUtf8, Output, Unread, Memory}

abbrev is_told : ErrorKind → Bool
is_told DisplayHelp = true
is_told DisplayVersion = true
is_told _ = false

answers_are_told : (kind : ErrorKind) → IsAnswer kind → is_told kind ≡ true
answers_are_told kind (inl e) = ap is_told e
answers_are_told kind (inr e) = ap is_told e

no_answer : (kind : ErrorKind) → is_told kind ≡ false → ¬ (IsAnswer kind)
no_answer kind untold answer = true≢false (sym (answers_are_told kind answer) ∙ untold)

answer_asked : (words : List Text) (e : Error) → IsErrorOf words e → IsAnswer (kind_of e) → AsksAnswer words
answer_asked words e (inl (inl memory)) answer = absurd (no_answer (kind_of e) (ap is_told memory) answer)
answer_asked words e (inl (inr among)) answer = (kind_of e, among, answer)
answer_asked words e (inr other) answer = absurd (no_answer (kind_of e) (ap is_told other.0) answer)

mistake_made : (words : List Text) (e : Error) → IsErrorOf words e → kind_of e ≢ OutOfMemory → ¬ (IsAnswer (kind_of e)) → AreMistaken words
mistake_made words e (inl (inl memory)) some other = absurd (some memory)
mistake_made words e (inl (inr among)) some other = inl (kind_of e, among, other)
mistake_made words e (inr wrong) some other = inr wrong.1

-- an answer, by its kind
pub answer_of_kind : (kind given : ErrorKind) (text : String Global) → given ≡ kind → (given ≡ DisplayHelp) ⊎ (given ≡ DisplayVersion) → IsToldBy kind (Answer text)
answer_of_kind kind given text g (inl e) = inl (sym g ∙ e)
answer_of_kind kind given text g (inr e) = inr (sym g ∙ e)

no_answer_of : (kind given : ErrorKind) → given ≡ kind → given ≢ DisplayHelp → given ≢ DisplayVersion → ¬ (IsAnswer kind)
no_answer_of kind given g help version (inl e) = help (g ∙ e)
no_answer_of kind given g help version (inr e) = version (g ∙ e)

-- a mistake, by its kind
pub mistake_of_kind : (kind given : ErrorKind) (text : String Global) → given ≡ kind → given ≢ OutOfMemory → given ≢ DisplayHelp → given ≢ DisplayVersion
    → IsRefusedBy kind (Mistaken text)
mistake_of_kind kind given text g memory help version = (λ e. memory (g ∙ e), no_answer_of kind given g help version)

-- words that ask for more than there is
pub call_lacks : (words : List Text) (call : Call) (lacks : Bool) → IsCallOf words call → lacks ≡ asks_more call → lacks ≡ true → RefusesCall words Lacking
call_lacks words call lacks h e t = (call, h, sym e ∙ t)

-- words that don't
pub call_asked : (words : List Text) (call : Call) (lacks : Bool) → IsCallOf words call → lacks ≡ asks_more call → lacks ≡ false → Asks words (SomeCall call)
call_asked words call lacks h e f = (h, sym e ∙ f)

-- what an error of words tells is asked for by them, or why they are refused
pub told_of_words : (words : List Text) (e : Error) (r : Result Request Refusal) → IsErrorOf words e
    → MatchResult r (IsToldBy (kind_of e)) (IsRefusedBy (kind_of e)) → MatchResult r (Asks words) (RefusesCall words)
told_of_words words e (Ok (SomeCall call)) is h = absurd h
told_of_words words e (Ok (Answer text)) is h = answer_asked words e is h
told_of_words words e (Err (Mistaken text)) is h = mistake_made words e is h.0 h.1
told_of_words words e (Err Undecoded) is h = absurd h
told_of_words words e (Err Lacking) is h = absurd h
told_of_words words e (Err Misplaced) is h = absurd h
told_of_words words e (Err (Skin word obstacle)) is h = absurd h
told_of_words words e (Err (FaultySkin line)) is h = absurd h
told_of_words words e (Err (Unreadable name obstacle)) is h = absurd h
told_of_words words e (Err NotUtf8) is h = absurd h
told_of_words words e (Err Output) is h = absurd h
told_of_words words e (Err Unread) is h = absurd h
told_of_words words e (Err Memory) is h = tt
