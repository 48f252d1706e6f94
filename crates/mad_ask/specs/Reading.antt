-- Reading lines until one decides.
use Rattle.std.specs.Prelude.{◌≡◌, ◌≢◌, ◌⊎◌, ℕ, ◌-◌, ◌^◌, List, [], ◌∷◌, ◌++◌, length, All, Some, None, Result, MatchResult, string_bytes}
use Rattle.std.specs.List.{flat_map}
use Rattle.std.specs.declared.alloc.Global.{Global}
use Rattle.std.specs.declared.string.String.{String}
use Rattle.mad_term.specs.Trace.{Trace, after, failed, ahead_all, CutShort, IsAtItsEnd}
use Rattle.mad_ask.specs.declared.ask_error.AskError.{AskError}
use Rattle.mad_ask.specs.declared.ask_error.AskError.TheVariants.{IO, EndOfInput, NotUtf8, Memory}
use Rattle.mad_ask.specs.Deciding.{Decision, Answered, NoText, Undecided, line_decides, complaint}
use Rattle.mad_ask.specs.Offers.{Offered}
use Rattle.mad_ask.specs.Replies.{SaidOfLast}

-- ---- lines

-- no byte is a newline (10)
abbrev pub HasNoNewline : List ℕ → Type 0
HasNoNewline bytes = All (λ b. b ≢ 10) bytes

-- a line with its newline
pub record IsLine (bytes : List ℕ) : Type 0 where
  pub front : List ℕ
  pub one : HasNoNewline front
  pub ended : bytes ≡ front ++ 10 ∷ []

-- ---- what is read and said

-- the two devices: what the input has left, and what was written
pub record Devices : Type 0 where
  pub input : Trace
  pub output : Trace

-- the bytes of lines
abbrev pub lines_bytes : List (List ℕ) → List ℕ
lines_bytes lines = flat_map (λ line. line) lines

-- what is said of lines that decided nothing
abbrev pub complaints : List (List ℕ) → List ℕ
complaints lines = flat_map complaint lines

-- lines that decided nothing were read, and after them these bytes
pub record HasRead (offered : Offered) (lines : List (List ℕ)) (more : List ℕ) (old new : Trace) : Type 0 where
  pub whole : All IsLine lines
  pub undecided : All (λ line. line_decides offered line ≡ Undecided) lines
  pub read : old ≡ ahead_all (lines_bytes lines ++ more) new

-- nothing more is read: the input is at its end, or 2 ^ 64 - 1 bytes were read
abbrev pub IsOver : List (List ℕ) → List ℕ → Trace → Type 0
IsOver lines more input = IsAtItsEnd input ⊎ (length (lines_bytes lines ++ more) ≡ 2 ^ 64 - 1)

-- one line: up to its newline or, where it isn't empty, up to where nothing more is read
abbrev pub IsLastRead : List (List ℕ) → List ℕ → Trace → Type 0
IsLastRead lines line input = IsLine line ⊎ ((line ≢ []) × HasNoNewline line × IsOver lines line input)

-- ---- how it ends

-- The first line that decides something decides this, and no byte after it was read. It ends in its newline, or with the input.
pub record IsDecided (offered : Offered) (decision : Decision) (old new : Devices) : Type 0 where
  pub lines : List (List ℕ)
  pub line : List ℕ
  pub read : HasRead offered lines line old.input new.input
  pub said : new.output ≡ after old.output (complaints lines)
  pub decides : line_decides offered line ≡ decision
  pub ended : IsLastRead lines line new.input

-- the input ended, and no line of it decided anything, a last one without a newline among them
pub record HasEnded (offered : Offered) (old new : Devices) : Type 0 where
  pub lines : List (List ℕ)
  pub last : List ℕ
  pub read : HasRead offered lines last old.input new.input
  pub said : SaidOfLast offered last (after old.output (complaints lines)) new.output
  pub open_end : HasNoNewline last
  pub over : IsOver lines last new.input

-- this was the answer: of a line, or the default at the end of the input
abbrev pub IsAnswered : Offered → Devices → List ℕ → Devices → Type 0
IsAnswered offered old answer new =
    IsDecided offered (Answered answer) old new ⊎ (HasEnded offered old new × (offered.default ≡ Some answer))

-- a fault came: of the input within a line, or of the output in the complaint about the last line that was read
pub record IsFaulted (offered : Offered) (old new : Devices) : Type 0 where
  pub lines : List (List ℕ)
  pub more : List ℕ
  pub last : Trace
  pub read : HasRead offered lines more old.input last
  pub fault : ((new.input ≡ failed last) × HasNoNewline more × (new.output ≡ after old.output (complaints lines)))
      ⊎ ((new.input ≡ last) × IsLastRead lines more last × (line_decides offered more ≡ Undecided) × CutShort (after old.output (complaints lines)) (complaint more) new.output)

-- Out of memory after some lines that decided nothing, and at most one more, or a part of it. That one may have been complained about.
pub record IsOutOfMemory (offered : Offered) (old new : Devices) : Type 0 where
  pub lines : List (List ℕ)
  pub more : List ℕ
  pub read : HasRead offered lines more old.input new.input
  pub one : HasNoNewline more ⊎ IsLine more
  pub said : (new.output ≡ after old.output (complaints lines)) ⊎ SaidOfLast offered more (after old.output (complaints lines)) new.output

-- why there is no answer
abbrev pub IsRefused : Offered → Devices → AskError → Devices → Type 0
IsRefused offered old (IO e) new = IsFaulted offered old new
IsRefused offered old EndOfInput new = HasEnded offered old new × (offered.default ≡ None)
IsRefused offered old NotUtf8 new = IsDecided offered NoText old new
IsRefused offered old Memory new = IsOutOfMemory offered old new

-- what reading an answer does
abbrev pub ReadsAnswer : Offered → Devices → Result (String Global) AskError → Devices → Type 0
ReadsAnswer offered old r new =
    MatchResult r (λ answer. IsAnswered offered old (string_bytes answer) new) (λ e. IsRefused offered old e new)
