-- Characters in a style.
use Rattle.std.specs.Prelude.{ℕ, Some, None}
use Rattle.mad_term.specs.declared.color.Color.{Color}
use Rattle.mad_style.specs.declared.compound_styles.CompoundStyle.{CompoundStyle}
use Rattle.mad_style.specs.declared.styled_chars.StyledChar.{StyledChar}
use Rattle.mad_term.specs.AttributeSets.{no_attributes}
use Rattle.mad_style.specs.CompoundStyles.{text_style, foreground_set, background_set}

-- its style
abbrev pub char_style : StyledChar → CompoundStyle
char_style c = c.compound_style

-- the character itself
abbrev pub char_alone : StyledChar → ℕ
char_alone c = c.nude_char

-- this character in this style
abbrev pub styled_char : CompoundStyle → ℕ → StyledChar
styled_char style c = record { compound_style = style; nude_char = c }

-- this character in this foreground
abbrev pub colored_char : Color → ℕ → StyledChar
colored_char color c = styled_char (text_style (Some color) None no_attributes) c

-- a character with another foreground
abbrev pub char_in : Color → StyledChar → StyledChar
char_in color c = styled_char (foreground_set (char_style c) color) (char_alone c)

-- a character with another background
abbrev pub char_on : Color → StyledChar → StyledChar
char_on color c = styled_char (background_set (char_style c) color) (char_alone c)

-- another character in the same style
abbrev pub shown_as : StyledChar → ℕ → StyledChar
shown_as c other = styled_char (char_style c) other
