-- Styles by the numbers of their colors in the terminal's palette.
use Rattle.std.specs.Prelude.{ℕ, List, ◌∷◌, replicate, Some, None}
use Rattle.mad_md.specs.declared.alignment.Alignment.TheVariants.{Unspecified}
use Rattle.mad_term.specs.declared.attribute.Attribute.{Attribute}
use Rattle.mad_term.specs.declared.color.Color.TheVariants.{AnsiValue}
use Rattle.mad_term.specs.AttributeSets.{no_attributes, only}
use Rattle.mad_style.specs.CompoundStyles.{text_style}
use Rattle.mad_style.specs.LineStyles.{unmargined}
use Rattle.mad_style.specs.StyledChars.{styled_char, colored_char}
use Rattle.mad_style.specs.declared.compound_styles.CompoundStyle.{CompoundStyle}
use Rattle.mad_style.specs.declared.line_styles.LineStyle.{LineStyle}
use Rattle.mad_style.specs.declared.ordered_items.OrderedItemStyle.{OrderedItemStyle}
use Rattle.mad_style.specs.declared.scroll_bars.ScrollBarStyle.{ScrollBarStyle}
use Rattle.mad_style.specs.declared.styled_chars.StyledChar.{StyledChar}

-- a style of an attribute alone
abbrev pub attributed : Attribute → CompoundStyle
attributed attribute = text_style None None (only attribute)

-- a style of a color alone
abbrev pub colored : ℕ → CompoundStyle
colored color = text_style (Some (AnsiValue color)) None no_attributes

-- a style of a color and an attribute
abbrev pub colored_as : ℕ → Attribute → CompoundStyle
colored_as color attribute = text_style (Some (AnsiValue color)) None (only attribute)

-- a style of a color on another
abbrev pub on : ℕ → ℕ → CompoundStyle
on color under = text_style (Some (AnsiValue color)) (Some (AnsiValue under)) no_attributes

-- a style of a color on another, and an attribute
abbrev pub on_as : ℕ → ℕ → Attribute → CompoundStyle
on_as color under attribute = text_style (Some (AnsiValue color)) (Some (AnsiValue under)) (only attribute)

-- a character in a color
abbrev pub drawn : ℕ → ℕ → StyledChar
drawn color c = colored_char (AnsiValue color) c

-- a bar of half blocks, by the colors of its thumb and its track
abbrev pub drawn_bar : ℕ → ℕ → ScrollBarStyle
drawn_bar thumb track = record { track = drawn track 0x2590; thumb = drawn thumb 0x2590 }

-- the number of an item and the dot after it, in one style
abbrev pub item_in : CompoundStyle → OrderedItemStyle
item_in style = record { index_style = style; index_suffix = styled_char style 46 }

-- a line in a style, without margins
abbrev pub line_of_style : CompoundStyle → LineStyle
line_of_style style = unmargined style Unspecified

-- the styles of headers of the first five levels, and of all others
abbrev pub headers_in : CompoundStyle → CompoundStyle → CompoundStyle → CompoundStyle → CompoundStyle → CompoundStyle → List LineStyle
headers_in first second third fourth fifth others =
    line_of_style first ∷ line_of_style second ∷ line_of_style third ∷ line_of_style fourth ∷ line_of_style fifth ∷ replicate 3 (line_of_style others)
