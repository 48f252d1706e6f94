-- Blocks of bytes from the terminal: what is heard of them, and what a session does of that.
use Rattle.std.specs.Prelude.{◌≡◌, ℕ, ◌||◌, Bool, true, false, List, [], ◌∷◌, ◌++◌, Option, Some, None}
use Rattle.mad_input.specs.Hearing.{BytesHear, PauseHears, all_heard}
use Rattle.mad_input.specs.declared.input.Heard.{Heard}
use Rattle.mad_input.specs.declared.input.Heard.TheVariants.{Typed, Pasted, Ready}
use Rattle.mad_input.specs.declared.input.TerminalInput.{TerminalInput}
use Rattle.mad_pager.specs.Pagers.{View, IsStep, IsViewSettled, pasted_in, turn_in}
use Rattle.mad_pager.specs.Sessions.{asks_size, end_of}
use Rattle.mad_pager.specs.declared.session.End.{End}
use Rattle.mad_pager.specs.declared.session.Turn.{Turn}
use Rattle.mad_pager.specs.declared.session.Turn.TheVariants.{Goes, AsksSize, Ends}

-- ---- what is heard

-- what is heard of a block after what came before, and of the pause after it, if there is one, in order, and what is so then
pub record IsBlockHeard (s : TerminalInput) (block : List ℕ) (pauses : Bool) (heard : List Heard) (new : TerminalInput) : Type 0 where
  pub before : TerminalInput
  pub own : List Heard
  pub told : BytesHear s block own before
  pub last : Option Heard
  pub pause : pauses ≡ true → PauseHears before.mode before last new
  pub none : pauses ≡ false → (last ≡ None) × (new ≡ before)
  pub all : heard ≡ own ++ all_heard last

-- ---- what is done

-- What is done of what is heard: an event that was typed, or one of a pasted text. That the terminal is ready changes nothing.
abbrev pub IsHeardStep : Heard → View → View → Type 0
IsHeardStep (Typed event) v new = IsStep event v new
IsHeardStep (Pasted event) v new = new ≡ pasted_in event v
IsHeardStep Ready v new = new ≡ v

-- how the session goes on after it; a terminal that is ready is asked for its size
abbrev pub turn_heard : Heard → View → Turn
turn_heard (Typed event) v = turn_in event v
turn_heard (Pasted event) v = Goes
turn_heard Ready v = AsksSize

-- what is done, if anything is heard
abbrev pub IsToldStep : Option Heard → View → View → Type 0
IsToldStep None v new = new ≡ v
IsToldStep (Some heard) v new = IsHeardStep heard v new

-- how the session goes on after it
abbrev pub turn_told : Option Heard → View → Turn
turn_told None v = Goes
turn_told (Some heard) v = turn_heard heard v

-- it is done, and the session just goes on
abbrev pub IsToldDone : Option Heard → View → View → Type 0
IsToldDone told v new = IsToldStep told v new × (turn_told told v ≡ Goes)

-- what is heard is done in order, and nothing of it ends the session; and whether something asks for the size of the screen
abbrev pub IsSession : View → List Heard → Bool → View → Type 0
IsSession v [] asks new = (asks ≡ false) × (new ≡ v)
IsSession v (one ∷ heard) asks new =
    (mid : View) × (others : Bool) × IsHeardStep one v mid × (end_of (turn_heard one v) ≡ None) × (asks ≡ (asks_size (turn_heard one v) || others))
    × IsSession mid heard others new

-- What is heard of a block is done, and nothing of it ends the session; and whether something asks for the size of the screen.
pub record AreHeardDone (s : TerminalInput) (block : List ℕ) (pauses : Bool) (v : View) (left : TerminalInput) (asks : Bool) (new : View) : Type 0 where
  pub heard : List Heard
  pub told : IsBlockHeard s block pauses heard left
  pub session : IsSession v heard asks new

-- It is done, and then the text is laid out once, for the last size that the terminal told, if it told one.
abbrev pub IsBlockDone : TerminalInput → List ℕ → Bool → View → TerminalInput → Bool → View → Type 0
IsBlockDone s block pauses v left asks new = (mid : View) × AreHeardDone s block pauses v left asks mid × IsViewSettled mid new

-- What is heard of the front of a block is done, and the last of it ends the session so. The rest of the block isn't read.
pub record IsEndedIn (s : TerminalInput) (block : List ℕ) (v : View) (end : End) : Type 0 where
  pub front : List ℕ
  pub rest : List ℕ
  pub whole : front ++ rest ≡ block
  pub heard : List Heard
  pub last : Heard
  pub left : TerminalInput
  pub told : BytesHear s front (heard ++ last ∷ []) left
  pub asks : Bool
  pub before : View
  pub session : IsSession v heard asks before
  pub ends : turn_heard last before ≡ Ends end
