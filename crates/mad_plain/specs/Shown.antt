-- What is shown of a line, as it is kept: its text and its runs.
use Rattle.std.specs.Prelude.{List, chars, string_bytes}
use Rattle.std.specs.Cow.{cow_str_bytes}
use Rattle.mad_plain.specs.declared.shown.ShownLine.{ShownLine}
use Rattle.mad_plain.specs.declared.shown.PlainLine.{PlainLine}
use Rattle.mad_plain.specs.declared.styled.StyledChars.{StyledChars}
use Rattle.mad_plain.specs.Pens.{plain_pen}
use Rattle.mad_plain.specs.Runs.{StyledChar, spread}

-- of a line that isn't whole yet, whose last run is open
abbrev pub shown_so_far : ShownLine → List StyledChar
shown_so_far line = spread line.style 0 line.runs.items (chars (string_bytes line.text))

-- past the last run all is plain
abbrev pub shown_of : PlainLine → List StyledChar
shown_of line = spread plain_pen 0 line.runs.items (chars (cow_str_bytes line.text))

-- what is left
abbrev pub rest_of : StyledChars → List StyledChar
rest_of rest = spread plain_pen rest.at rest.runs.now (chars rest.text.now)
