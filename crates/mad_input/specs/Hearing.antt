-- What is heard of a terminal, byte by byte.
use Rattle.std.specs.Prelude.{◌≡◌, ℕ, ◌+◌, ◌-◌, ◌^◌, ◌==◌, min, Bool, true, false, List, [], ◌∷◌, ◌++◌, Option, Some, None, option_map, if◌then◌else◌}
use Rattle.mad_term.specs.declared.events.Event.{Event}
use Rattle.mad_term.specs.declared.events.Event.TheVariants.{Resize}
use Rattle.mad_keys.specs.Decoding.{ByteGives, PauseGives}
use Rattle.mad_input.specs.Marks.{begins_paste, begins_string, ends_paste, one_more, says_ready}
use Rattle.mad_input.specs.declared.input.Heard.{Heard}
use Rattle.mad_input.specs.declared.input.Heard.TheVariants.{Typed, Pasted, Ready}
use Rattle.mad_input.specs.declared.input.Mode.{Mode}
use Rattle.mad_input.specs.declared.input.Mode.TheVariants.{Types, Pastes, Drops, Escapes}
use Rattle.mad_input.specs.declared.input.TerminalInput.{TerminalInput}

-- a reader that has read nothing: no answer counts yet
abbrev pub quiet_input : TerminalInput
quiet_input = record { keys = []; since = []; mode = Types; awaited = 0 }

-- one answer more counts, where the terminal is asked for its size
abbrev pub awaiting : Bool → TerminalInput → TerminalInput
awaiting asks s = if asks then record s { awaited = min (s.awaited + 1) (2 ^ 64 - 1) } else s

-- nothing waits, and what comes is typed
abbrev pub afresh : TerminalInput → TerminalInput
afresh s = record s { keys = []; since = []; mode = Types }

-- ---- what is typed

-- what is heard of an event that is typed: a size only where an answer still counts
abbrev pub heard_event : ℕ → Event → Option Heard
heard_event awaited (Resize columns rows) = if awaited == 0 then None else Some (Typed (Resize columns rows))
heard_event awaited event = Some (Typed event)

-- what is heard of bytes that are typed: their event, or that the terminal is ready
abbrev pub heard_typed : ℕ → Bool → Option Event → Option Heard
heard_typed awaited ready None = if ready then Some Ready else None
heard_typed awaited ready (Some event) = heard_event awaited event

-- how many answers still count after an event: a size is one
abbrev pub awaited_after : ℕ → Option Event → ℕ
awaited_after awaited None = awaited
awaited_after awaited (Some (Resize columns rows)) = awaited - 1
awaited_after awaited (Some event) = awaited

-- a byte that is typed, and begins no string
abbrev pub IsTypedRead : TerminalInput → ℕ → Option Heard → TerminalInput → Type 0
IsTypedRead s b heard new =
    (event : Option Event) × (left : List ℕ) × ByteGives s.keys b event left × (heard ≡ heard_typed s.awaited (says_ready s.since b) event)
    × (new ≡ record { keys = left; since = one_more s.since b; mode = if begins_paste s.since b then Pastes else Types; awaited = awaited_after s.awaited event })

-- A byte that is typed: with `ESC ]` a string begins.
pub record TypedHears (s : TerminalInput) (b : ℕ) (heard : Option Heard) (new : TerminalInput) : Type 0 where
  pub string : begins_string s.since b ≡ true → (heard ≡ None) × (new ≡ record s { keys = []; since = []; mode = Drops })
  pub other : begins_string s.since b ≡ false → IsTypedRead s b heard new

-- ---- what isn't

-- a byte of a text that is pasted: its keys are heard as pasted, up to its end
abbrev pub PastedHears : TerminalInput → ℕ → Option Heard → TerminalInput → Type 0
PastedHears s b heard new =
    (event : Option Event) × (left : List ℕ) × ByteGives s.keys b event left × (heard ≡ option_map Pasted event)
    × (new ≡ record s { keys = left; since = one_more s.since b; mode = if ends_paste s.since b then Types else Pastes })

-- a string after one of its bytes: BEL (7) ends it, and ESC (27) may
abbrev pub within_string : ℕ → TerminalInput → TerminalInput
within_string b s = if b == 7 then afresh s else if b == 27 then record s { mode = Escapes } else s

-- a byte of a string: nothing is heard of it
abbrev pub DroppedHears : TerminalInput → ℕ → Option Heard → TerminalInput → Type 0
DroppedHears s b heard new = (heard ≡ None) × (new ≡ within_string b s)

-- A byte after an ESC in a string: a backslash (92) ends the string, and any other is read after the ESC, as what is typed.
pub record EscapedHears (s : TerminalInput) (b : ℕ) (heard : Option Heard) (new : TerminalInput) : Type 0 where
  pub ends : (b == 92) ≡ true → (heard ≡ None) × (new ≡ afresh s)
  pub other : (b == 92) ≡ false → TypedHears (record s { keys = 27 ∷ []; since = 27 ∷ []; mode = Types }) b heard new

-- ---- all bytes

-- one byte, by what is being read: what is heard of it, if anything is, and what is so then
abbrev pub ByteHears : Mode → TerminalInput → ℕ → Option Heard → TerminalInput → Type 0
ByteHears Types s b heard new = TypedHears s b heard new
ByteHears Pastes s b heard new = PastedHears s b heard new
ByteHears Drops s b heard new = DroppedHears s b heard new
ByteHears Escapes s b heard new = EscapedHears s b heard new

-- the bytes since the last ESC after a pause: after a lone ESC none
abbrev pub since_pause : List ℕ → Option Event → List ℕ
since_pause w None = w
since_pause w (Some event) = []

-- a pause in what is typed: a lone ESC is Esc
abbrev pub IsTypedPaused : TerminalInput → Option Heard → TerminalInput → Type 0
IsTypedPaused s heard new =
    (event : Option Event) × (left : List ℕ) × PauseGives s.keys event left × (heard ≡ option_map Typed event) × (new ≡ record s { keys = left; since = since_pause s.since event })

-- a pause, by what is being read: a lone ESC that was typed is Esc, a string ends, and a text that is pasted goes on
abbrev pub PauseHears : Mode → TerminalInput → Option Heard → TerminalInput → Type 0
PauseHears Types s heard new = IsTypedPaused s heard new
PauseHears Pastes s heard new = (heard ≡ None) × (new ≡ s)
PauseHears Drops s heard new = (heard ≡ None) × (new ≡ afresh s)
PauseHears Escapes s heard new = (heard ≡ None) × (new ≡ afresh s)

-- what is heard, as a list
abbrev pub all_heard : Option Heard → List Heard
all_heard None = []
all_heard (Some heard) = heard ∷ []

-- bytes one after the other: what is heard of them, and what is so then
abbrev pub BytesHear : TerminalInput → List ℕ → List Heard → TerminalInput → Type 0
BytesHear s [] heard new = (heard ≡ []) × (new ≡ s)
BytesHear s (b ∷ bytes) heard new =
    (one : Option Heard) × (mid : TerminalInput) × (others : List Heard) × ByteHears s.mode s b one mid × BytesHear mid bytes others new × (heard ≡ all_heard one ++ others)
