-- A row as it is drawn.
use Rattle.std.specs.Prelude.{List}
use Rattle.mad_style.specs.declared.styled_chars.StyledChar.{StyledChar}
use Rattle.mad_plain_page.specs.declared.painted.StyledRow.{StyledRow}

-- its characters, each in its style
abbrev pub row_chars : StyledRow → List StyledChar
row_chars row = row.chars.items
