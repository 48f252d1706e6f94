-- What a contract sees of a terminal for tests.
use Rattle.std.specs.Prelude.{◌≡◌, ℕ, List, Option, Some, option_map}
use Rattle.mad_frames.specs.Gathered.{gathered_trace, untouched}
use Rattle.mad_term.specs.Trace.{Trace}
use Rattle.mad_screen.specs.Grid.{Grid, empty_grid}
use Rattle.mad_screen.specs.Pictures.{screen_text}
use Rattle.mad_screen.specs.Terminal.{after_bytes}
use Rattle.mad_frames.specs.declared.terminal.TestTerminal.{TestTerminal}

-- it tells all that it took
abbrev pub terminal_trace : TestTerminal → Trace
terminal_trace terminal = gathered_trace terminal.out

-- what a plain terminal of its size, blank at first, shows of all that it took
abbrev pub shown_on : TestTerminal → Option Grid
shown_on terminal = after_bytes (empty_grid terminal.width terminal.height) terminal.out.bytes.items

-- what it was made with
pub record IsTestTerminal (terminal : TestTerminal) (width height : ℕ) : Type 0 where
  pub width_is : terminal.width ≡ width
  pub height_is : terminal.height ≡ height
  pub trace_is : terminal_trace terminal ≡ untouched

-- it still has the size that it was made with
pub record IsSameTerminal (old new : TestTerminal) : Type 0 where
  pub width : new.width ≡ old.width
  pub height : new.height ≡ old.height

-- it shows these rows, each with a newline
abbrev pub HasPicture : TestTerminal → List ℕ → Type 0
HasPicture terminal picture = option_map screen_text (shown_on terminal) ≡ Some picture
