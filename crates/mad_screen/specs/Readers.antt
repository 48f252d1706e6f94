-- How far the reader of a screen has come, as the terminal's own words.
use Rattle.std.specs.Prelude.{ℕ, List, Option}
use Rattle.mad_screen.specs.declared.reader.Mode as modes
use Rattle.mad_screen.specs.declared.reader.Mode.TheVariants as mode
use Rattle.mad_screen.specs.declared.reader.Reader.{Reader}
use Rattle.mad_screen.specs.Terminal.{Mode, Outside, Escape, Numbers, Reading}

-- the mode of the code's reader, with its numbers and the digits of the next, as the terminal's
abbrev pub mode_of : modes.Mode → List ℕ → Option ℕ → Mode
mode_of mode.Outside ps digits = Outside
mode_of mode.Escape ps digits = Escape
mode_of mode.Numbers ps digits = Numbers ps digits

-- the screen in the middle of a text
abbrev pub reading_of : Reader → Reading
reading_of r = record { grid = r.screen; mode = mode_of r.mode r.numbers.items r.digits }
