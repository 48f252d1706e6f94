-- What is read of a name.
use Rattle.std.proofs.Common.{◌≡◌, Bool, true, false, ℕ, List, codes, Result, refl, sym, subst}
use Rattle.std.specs.Borrow.{Bor}
use Rattle.std.specs.Prelude.{MatchBool, MatchResult}
use Rattle.std.specs.Str.{bytes_eq}
use Rattle.std.specs.declared.io.ErrorKind.{ErrorKind}
use Rattle.std.specs.declared.io.ErrorKind.TheVariants.{OutOfMemory}
use Rattle.mad_term.specs.Trace.{Trace}
use Rattle.termimad_given.specs.Given.{Held}
use Rattle.termimad_run.specs.Reading.{ReadingFails, ReadsWhole}
use Rattle.termimad_words.specs.declared.failure.Failure.{Failure}
use Rattle.termimad_words.specs.declared.failure.Failure.TheVariants.{Io, Memory}
use Rattle.termimad_command.specs.Refusals.{reading_by}
use Rattle.termimad_command.specs.Texts.{FailsAtInput, IsReadAs, IsUnread, IsUnreadable, input_refusal}
use Rattle.termimad_command.specs.declared.refusals.Refusal.{Refusal}

input_fails_by : (name : Bor (List ℕ)) (failure : Failure) (old new : Trace) → ReadingFails old failure new
    → FailsAtInput name.now old (input_refusal name failure) new
input_fails_by name Io old new h = (refl, h)
input_fails_by name Memory old new h = h
input_fails_by name _ old new h = absurd h

-- the input isn't read whole
pub input_fails : (name : Bor (List ℕ)) (failure : Failure) (old new : Trace) (refusal : Refusal) → refusal ≡ input_refusal name failure
    → ReadingFails old failure new → FailsAtInput name.now old refusal new
input_fails name failure old new refusal e h =
    subst (λ (refusal : Refusal). FailsAtInput name.now old refusal new) (sym e) (input_fails_by name failure old new h)

-- the input is read
pub input_read : {V : Type 0} (items : V → List ℕ) (holds : Held) (name : List ℕ) (old new : Trace) (r : Result V Refusal) → bytes_eq name (codes "-") ≡ true
    → MatchResult r (λ v. ReadsWhole old (items v) new) (λ refusal. FailsAtInput name old refusal new)
    → MatchResult r (λ v. IsReadAs holds name old (items v) new) (λ refusal. IsUnread name old refusal new)
input_read {V} items holds name old new r e h =
    subst (λ (b : Bool). MatchResult r (λ v. MatchBool b (ReadsWhole old (items v) new) (holds name (items v) × (new ≡ old)))
    (λ refusal. MatchBool b (FailsAtInput name old refusal new) (IsUnreadable name refusal × (new ≡ old)))) (sym e) h

-- a text is read by its name
pub named_read : (holds : Held) (name bytes : List ℕ) (old : Trace) → bytes_eq name (codes "-") ≡ false → holds name bytes → IsReadAs holds name old bytes old
named_read holds name bytes old e h =
    subst (λ (b : Bool). MatchBool b (ReadsWhole old bytes old) (holds name bytes × (old ≡ old))) (sym e) (h, refl)

unreadable_by : (name : Bor (List ℕ)) (kind : ErrorKind) → IsUnreadable name.now (reading_by name kind)
unreadable_by name OutOfMemory = tt
unreadable_by name _ = refl

-- it isn't
pub named_unread : (name : Bor (List ℕ)) (kind : ErrorKind) (refusal : Refusal) (old : Trace) → bytes_eq name.now (codes "-") ≡ false → refusal ≡ reading_by name kind
    → IsUnread name.now old refusal old
named_unread name kind refusal old e r =
    subst (λ (b : Bool). MatchBool b (FailsAtInput name.now old refusal old) (IsUnreadable name.now refusal × (old ≡ old))) (sym e)
    (subst (λ (refusal : Refusal). IsUnreadable name.now refusal) (sym r) (unreadable_by name kind), refl)
