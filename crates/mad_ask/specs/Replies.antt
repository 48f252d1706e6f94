-- What one line does to the output.
use Rattle.std.specs.Prelude.{◌≡◌, ◌≢◌, ◌⊎◌, ℕ, List, [], Option, Some, None, Result, MatchOption, MatchResult, string_bytes}
use Rattle.std.specs.declared.alloc.Global.{Global}
use Rattle.std.specs.declared.string.String.{String}
use Rattle.mad_term.specs.Trace.{Trace, after, CutShort}
use Rattle.mad_ask.specs.declared.ask_error.AskError.{AskError}
use Rattle.mad_ask.specs.declared.ask_error.AskError.TheVariants.{IO, EndOfInput, NotUtf8, Memory}
use Rattle.mad_ask.specs.Deciding.{Answered, NoText, Undecided, line_decides, complaint}
use Rattle.mad_ask.specs.Offers.{Offered}

-- ---- a line

-- Why a line has no reply. Where it decides nothing, a fault can come in the complaint.
abbrev pub ReplyFails : Offered → List ℕ → Trace → AskError → Trace → Type 0
ReplyFails offered line old (IO e) new = (line_decides offered line ≡ Undecided) × CutShort old (complaint line) new
ReplyFails offered line old EndOfInput new = ⊥
ReplyFails offered line old NotUtf8 new = (line_decides offered line ≡ NoText) × (new ≡ old)
ReplyFails offered line old Memory new = new ≡ old

-- what is done with a line: it answers, or it is complained about
abbrev pub Replies : Offered → List ℕ → Trace → Result (Option (String Global)) AskError → Trace → Type 0
Replies offered line old r new =
    MatchResult r
    (λ answer. MatchOption answer
    ((line_decides offered line ≡ Undecided) × (new ≡ after old (complaint line)))
    (λ text. (line_decides offered line ≡ Answered (string_bytes text)) × (new ≡ old)))
    (λ e. ReplyFails offered line old e new)

-- ---- the last line, which has no newline

-- what is said of it: nothing where it is empty, and else that it decided nothing
abbrev pub SaidOfLast : Offered → List ℕ → Trace → Trace → Type 0
SaidOfLast offered line old new =
    ((line ≡ []) × (new ≡ old))
    ⊎ ((line ≢ []) × (line_decides offered line ≡ Undecided) × (new ≡ after old (complaint line)))

-- the answer at the end of the input: the line's, or the default
abbrev pub EndAnswers : Offered → List ℕ → Trace → List ℕ → Trace → Type 0
EndAnswers offered line old answer new =
    ((line ≢ []) × (line_decides offered line ≡ Answered answer) × (new ≡ old))
    ⊎ ((offered.default ≡ Some answer) × SaidOfLast offered line old new)

-- why there is none
abbrev pub EndFails : Offered → List ℕ → Trace → AskError → Trace → Type 0
EndFails offered line old (IO e) new = (line ≢ []) × (line_decides offered line ≡ Undecided) × CutShort old (complaint line) new
EndFails offered line old EndOfInput new = (offered.default ≡ None) × SaidOfLast offered line old new
EndFails offered line old NotUtf8 new = (line ≢ []) × (line_decides offered line ≡ NoText) × (new ≡ old)
EndFails offered line old Memory new = (new ≡ old) ⊎ SaidOfLast offered line old new

-- what the end of the input does
abbrev pub EndGives : Offered → List ℕ → Trace → Result (String Global) AskError → Trace → Type 0
EndGives offered line old r new =
    MatchResult r (λ answer. EndAnswers offered line old (string_bytes answer) new) (λ e. EndFails offered line old e new)
