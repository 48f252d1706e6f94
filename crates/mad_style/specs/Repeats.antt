-- The bytes of repeated texts, and of a character.
use Rattle.std.specs.Prelude.{ℕ, List, ◌==◌, if◌then◌else◌, encode_utf8}
use Rattle.mad_term.specs.declared.styles.ContentStyle.{ContentStyle}
use Rattle.mad_term.specs.Styles.{piece_bytes, styled_repeat_bytes}
use Rattle.mad_style.specs.declared.compound_styles.CompoundStyle.{CompoundStyle}
use Rattle.mad_style.specs.declared.styled_chars.StyledChar.{StyledChar}
use Rattle.mad_style.specs.CompoundStyles.{unstyled}
use Rattle.mad_style.specs.StyledChars.{char_style, char_alone}

-- a text repeated, as one piece; none at all writes nothing, no command either
abbrev pub repeat_bytes : CompoundStyle → List ℕ → ℕ → List ℕ
repeat_bytes style text count = styled_repeat_bytes style.object_style text count

-- the style that a repeated text is written in: none where nothing is
abbrev pub repeat_style : CompoundStyle → ℕ → ContentStyle
repeat_style style count = if count == 0 then unstyled.object_style else style.object_style

-- a character in its style, as one piece
abbrev pub styled_char_bytes : StyledChar → List ℕ
styled_char_bytes c = piece_bytes (char_style c).object_style (encode_utf8 (char_alone c))

-- a character repeated in its style, as one piece
abbrev pub char_repeat_bytes : StyledChar → ℕ → List ℕ
char_repeat_bytes c count = repeat_bytes (char_style c) (encode_utf8 (char_alone c)) count
