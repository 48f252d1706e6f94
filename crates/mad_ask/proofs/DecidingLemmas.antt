-- What a line decides, by whether it is text.
use Rattle.std.proofs.Common.{◌≡◌, ℕ, Bool, cond, List, ap, subst, sym}
use Rattle.std.specs.Str.{IsUtf8, is_utf8, trim_end}
use Rattle.std.proofs.lemmas.Bool.{false_from_ne_true}
use Rattle.std.proofs.lemmas.Str.{IsUtf8-from_is_utf8, is_utf8-from_IsUtf8}
use Rattle.std.specs.Prelude.{Result, Ok, Err, MatchResult, IsErrAnd}
use Rattle.mad_ask.specs.declared.ask_error.AskError.{AskError}
use Rattle.mad_ask.specs.Deciding.{NoText, line_decides, text_decides}
use Rattle.mad_ask.specs.Offers.{Offered}

-- a line that is text decides what its text does
pub line_of_text : (offered : Offered) (line : List ℕ) → IsUtf8 line → line_decides offered line ≡ text_decides offered offered.default (trim_end line)
line_of_text offered line h =
    ap (λ (b : Bool). cond b (text_decides offered offered.default (trim_end line)) NoText) (is_utf8-from_IsUtf8 line h)

-- a line that isn't text decides that
pub line_of_no_text : (offered : Offered) (line : List ℕ) → ¬ (IsUtf8 line) → line_decides offered line ≡ NoText
line_of_no_text offered line h =
    ap (λ (b : Bool). cond b (text_decides offered offered.default (trim_end line)) NoText) (false_from_ne_true (is_utf8 line) (λ e. h (IsUtf8-from_is_utf8 line e)))

-- the exit of a call that refused by this error
pub refused_exit : {T : Type 0} (r : Result T AskError) (e : AskError) (P : T → Type 0) (Q : AskError → Type 0) → IsErrAnd r (λ x. x ≡ e) → Q e → MatchResult r P Q
refused_exit (Ok a) e P Q h q = absurd h
refused_exit (Err x) e P Q h q = subst Q (sym h) q
