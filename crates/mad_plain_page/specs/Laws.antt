-- Laws of the rows of a text.
use Rattle.std.specs.Prelude.{◌≡◌, ℕ, Bool, List, map}
use Rattle.mad_style.specs.StyledChars.{char_alone}
use Rattle.mad_style.specs.declared.styled_chars.StyledChar.{StyledChar as PaintedChar}
use Rattle.mad_plain.specs.Runs.{StyledChar}
use Rattle.mad_plain_page.specs.PlainTexts.{painted_line, row_lines, said_line}

-- The characters that are drawn of the rows of a line are those that the lines of its page say, whatever the styles.
abbrev pub DrawnAsSaid : Type 0
DrawnAsSaid =
    (is_styled : Bool) (width : ℕ) (line : List StyledChar)
    → map (λ (row : List PaintedChar). said_line (map char_alone row)) (painted_line is_styled width line) ≡ row_lines width line
