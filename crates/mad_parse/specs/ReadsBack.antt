-- The styles that read back equal from what they write.
use Rattle.std.specs.Prelude.{◌≡◌, ◌<◌, ⊤, ℕ, List, Bool, true, false, Option, Some, None, Ok}
use Rattle.std.specs.Char.{is_whitespace, is_ascii_digit}
use Rattle.mad_term.specs.Attributes.{has_attribute}
use Rattle.mad_term.specs.declared.attribute.Attribute.{Attribute}
use Rattle.mad_term.specs.declared.attribute.Attribute.TheVariants.{Bold, Dim, Italic, Underlined, Reverse, CrossedOut, Encircled, OverLined}
use Rattle.mad_term.specs.declared.color.Color.{Color}
use Rattle.mad_term.specs.declared.color.Color.TheVariants as color
use Rattle.mad_style.specs.declared.compound_styles.CompoundStyle.{CompoundStyle}
use Rattle.mad_style.specs.declared.line_styles.LineStyle.{LineStyle}
use Rattle.mad_style.specs.declared.ordered_items.OrderedItemStyle.{OrderedItemStyle}
use Rattle.mad_style.specs.declared.styled_chars.StyledChar.{StyledChar}
use Rattle.mad_style.specs.StyledChars.{char_alone, char_style}
use Rattle.mad_parse.specs.Reading.{tokens_of, said}
use Rattle.mad_parse.specs.TokenStyles.{style_of, line_style_of, styled_char_of, item_style_of}

-- whether an attribute is written
abbrev pub is_written : Attribute → Bool
is_written Bold = true
is_written Dim = true
is_written Italic = true
is_written Underlined = true
is_written Reverse = true
is_written CrossedOut = true
is_written Encircled = true
is_written OverLined = true
is_written _ = false

-- a color that reads back: none of the three that are read as another or not at all
abbrev pub IsReadBackColor : Color → Type 0
IsReadBackColor color.Reset = ⊥
IsReadBackColor color.Black = ⊥
IsReadBackColor color.White = ⊥
IsReadBackColor _ = ⊤

-- a color that reads back, where there is one
abbrev pub IsReadBackOrNone : Option Color → Type 0
IsReadBackOrNone None = ⊤
IsReadBackOrNone (Some c) = IsReadBackColor c

-- A style that reads back: its colors do, and it has no attributes but those that are written. It has no color of its own for
-- the underline.
pub record IsReadBackStyle (s : CompoundStyle) : Type 0 where
  pub foreground : IsReadBackOrNone s.object_style.foreground_color
  pub background : IsReadBackOrNone s.object_style.background_color
  pub underline : s.object_style.underline_color ≡ None
  pub attributes : (a : Attribute) → is_written a ≡ false → has_attribute s.object_style.attributes a ≡ false

-- such a style of a line, with margins below 65536
pub record IsReadBackLine (s : LineStyle) : Type 0 where
  pub style : IsReadBackStyle s.compound_style
  pub left : s.left_margin < 65536
  pub right : s.right_margin < 65536

-- such a style of a character that is neither whitespace nor an ASCII digit
pub record IsReadBackChar (c : StyledChar) : Type 0 where
  pub style : IsReadBackStyle (char_style c)
  pub no_whitespace : is_whitespace (char_alone c) ≡ false
  pub no_digit : is_ascii_digit (char_alone c) ≡ false

-- such styles of an ordered item's number and suffix
pub record IsReadBackItem (s : OrderedItemStyle) : Type 0 where
  pub index : IsReadBackStyle s.index_style
  pub suffix : IsReadBackChar s.index_suffix

-- what is read of the text that a style is written as is that style
abbrev pub StyleReadsBack : CompoundStyle → List ℕ → Type 0
StyleReadsBack s text = IsReadBackStyle s → said style_of (tokens_of text) ≡ Ok s

-- the same of a line's style
abbrev pub LineReadsBack : LineStyle → List ℕ → Type 0
LineReadsBack s text = IsReadBackLine s → said line_style_of (tokens_of text) ≡ Ok s

-- the same of a character in a style, whatever the reader takes for a character where there is none
abbrev pub CharReadsBack : StyledChar → List ℕ → Type 0
CharReadsBack c text = IsReadBackChar c → (default : ℕ) → said (styled_char_of default) (tokens_of text) ≡ Ok c

-- the same of an ordered item's style
abbrev pub ItemReadsBack : OrderedItemStyle → List ℕ → Type 0
ItemReadsBack s text = IsReadBackItem s → (default : ℕ) → said (item_style_of default) (tokens_of text) ≡ Ok s
