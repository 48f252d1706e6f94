-- What a device keeps that sends only what changes, and what it makes of what was put.
use Rattle.std.specs.Prelude.{◌≡◌, ℕ, ◌==◌, ◌&&◌, nat_eq, Bool, false, List, [], ◌∷◌, ◌++◌, length, take, drop, Option, Some, None, MatchBool, MatchOption, IfSome, if◌then◌else◌}
use Rattle.std.specs.List.{starts_with}
use Rattle.mad_term.specs.Trace.{Trace, after, flushed}
use Rattle.mad_screen.specs.Grid.{Grid, empty_grid, has_none}
use Rattle.mad_screen.specs.Terminal.{after_bytes}
use Rattle.mad_frames.specs.Mending.{mended}
use Rattle.mad_frames.specs.Scrolling.{Bring, BringTo}

-- All that was put, how often it failed and was flushed, and the device below. The size that was told last; the screen that the terminal shows once
-- it has read what is unsent, if that is known; and the end of what was put, since the last flush.
pub record Spared : Type 0 where
  pub told : List ℕ
  pub faults : ℕ
  pub flushes : ℕ
  pub below : Trace
  pub columns : ℕ
  pub rows : ℕ
  pub screen : Grid
  pub known : Bool
  pub drawn : List ℕ
  pub unsent : List ℕ

-- it tells all that was put
abbrev pub spared_trace : Spared → Trace
spared_trace s = record { bytes = Some s.told; faults = s.faults; flushes = s.flushes }

-- at first
abbrev pub new_spared : Trace → ℕ → ℕ → Spared
new_spared below columns rows = record { told = []; faults = 0; flushes = 0; below = below; columns = columns; rows = rows; screen = empty_grid columns rows; known = false; drawn = []; unsent = [] }

-- the question for the size of the screen: where the cursor is after a far move
abbrev pub size_question : List ℕ
size_question = 27 ∷ 91 ∷ 57 ∷ 57 ∷ 57 ∷ 59 ∷ 57 ∷ 57 ∷ 57 ∷ 72 ∷ 27 ∷ 91 ∷ 54 ∷ 110 ∷ []

-- how long it is at the front of a text; 0 where there is none
abbrev pub question_length : List ℕ → ℕ
question_length text = if starts_with nat_eq text size_question then length size_question else 0

-- ---- what is made of what was put

-- what was put is read on from the known screen: it begins with no question, and the screen has the size that was told last
abbrev pub goes_on : Spared → Bool
goes_on s = s.known && ((question_length s.drawn == 0) && ((s.screen.width == s.columns) && (s.screen.height == s.rows)))

-- what was put behind a question
abbrev pub behind_question : Spared → List ℕ
behind_question s = drop (question_length s.drawn) s.drawn

-- the screen of a plain terminal that was blank and has read a text, if there is one
abbrev pub read_anew : ℕ → ℕ → List ℕ → Option Grid
read_anew columns rows text = if has_none text then None else after_bytes (empty_grid columns rows) text

-- The screen after what was put, as the plain terminal reads it: on from the known one, or on a blank one, and then without the question.
abbrev pub next_screen : Spared → Option Grid
next_screen s = if goes_on s then after_bytes s.screen s.drawn else read_anew s.columns s.rows (behind_question s)

-- what leads a terminal to the next screen: from the known one; else from any, behind the question as it is
abbrev pub LeadsOn : Spared → Grid → List ℕ → Type 0
LeadsOn s next bytes =
    MatchBool (goes_on s) (BringTo (mended s.screen) (mended next) bytes)
    ((changes : List ℕ) × (bytes ≡ take (question_length s.drawn) s.drawn ++ changes) × Bring (mended next) changes)

-- What is sent of what was put: what leads to the next screen, or, where there is none, that as it is.
abbrev pub IsSent : Spared → List ℕ → Type 0
IsSent s bytes = MatchOption (next_screen s) (bytes ≡ s.drawn) (λ next. LeadsOn s next bytes)

-- ---- what is always true

-- the screen that is known
abbrev pub known_screen : Spared → Option Grid
known_screen s = if s.known then Some s.screen else None

-- What was put up to the last flush ends with a text that leads the plain terminal, blank at first, to this screen. What the device below has taken,
-- with what it has yet to take, ends with bytes that lead a terminal that scrolls to the same cells, whatever it showed before.
pub record Follows (s : Spared) (taken : List ℕ) (screen : Grid) : Type 0 where
  pub before : List ℕ
  pub since : List ℕ
  pub put : s.told ≡ before ++ (since ++ s.drawn)
  pub read : after_bytes (empty_grid screen.width screen.height) since ≡ Some screen
  pub earlier : List ℕ
  pub sent : List ℕ
  pub took : taken ++ s.unsent ≡ earlier ++ sent
  pub shows : Bring (mended screen) sent

-- so it is of the known screen, where the device below tells what it took
abbrev pub IsSparing : Spared → Type 0
IsSparing s = IfSome s.below.bytes (λ taken. IfSome (known_screen s) (Follows s taken))

-- ---- a flush

-- the screen that is known after a flush
abbrev pub flushed_screen : Spared → Option Grid
flushed_screen s = if has_none s.drawn then known_screen s else next_screen s

-- what is to be sent: what the device below has yet to take, and then what is made of what was put
abbrev pub IsQueued : Spared → List ℕ → Type 0
IsQueued s unsent = MatchBool (has_none s.drawn) (unsent ≡ s.unsent) ((bytes : List ℕ) × (unsent ≡ s.unsent ++ bytes) × IsSent s bytes)

-- What was put is read, and all is sent and flushed.
pub record IsFlushed (old new : Spared) : Type 0 where
  pub told : new.told ≡ old.told
  pub screen : known_screen new ≡ flushed_screen old
  pub drawn : new.drawn ≡ []
  pub unsent : new.unsent ≡ []
  pub bytes : List ℕ
  pub queued : IsQueued old bytes
  pub went : new.below ≡ flushed (after old.below bytes)
