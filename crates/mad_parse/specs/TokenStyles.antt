-- The styles that tokens say.
use Rattle.std.specs.Prelude.{ℕ, List, [], ◌∷◌, Bool, true, false, Option, Some, None, take, drop, filter_map}
use Rattle.std.specs.List.{prefix_len}
use Rattle.std.specs.Option.{option_or}
use Rattle.mad_md.specs.declared.alignment.Alignment.{Alignment}
use Rattle.mad_md.specs.declared.alignment.Alignment.TheVariants.{Unspecified}
use Rattle.mad_term.specs.declared.attribute.Attribute.{Attribute}
use Rattle.mad_term.specs.declared.color.Color.{Color}
use Rattle.mad_style.specs.declared.compound_styles.CompoundStyle.{CompoundStyle}
use Rattle.mad_style.specs.declared.line_styles.LineStyle.{LineStyle}
use Rattle.mad_style.specs.declared.ordered_items.OrderedItemStyle.{OrderedItemStyle}
use Rattle.mad_style.specs.declared.styled_chars.StyledChar.{StyledChar}
use Rattle.mad_term.specs.AttributeSets.{no_attributes}
use Rattle.mad_style.specs.CompoundStyles.{text_style, attribute_added}
use Rattle.mad_style.specs.StyledChars.{styled_char}
use Rattle.mad_parse.specs.declared.tokens.StyleToken.{StyleToken}
use Rattle.mad_parse.specs.declared.tokens.StyleToken.TheVariants as token

-- the first of a list, or another value where it is empty
abbrev pub first_or : {A : Type 0} → A → List A → A
first_or x [] = x
first_or x (y ∷ ys) = y

-- the last of a list, or another value where it is empty
abbrev pub last_or : {A : Type 0} → A → List A → A
last_or x [] = x
last_or x (y ∷ ys) = last_or y ys

-- the color that a token says, if any; `none` says that there is no color
abbrev pub color_said : StyleToken → Option (Option Color)
color_said (token.Color c) = Some (Some c)
color_said token.None = Some None
color_said _ = None

-- the attribute that a token says, if any
abbrev pub attribute_said : StyleToken → Option Attribute
attribute_said (token.Attribute a) = Some a
attribute_said _ = None

-- the alignment that a token says, if any
abbrev pub align_said : StyleToken → Option Alignment
align_said (token.Align align) = Some align
align_said _ = None

-- the number that a token says, if any
abbrev pub number_said : StyleToken → Option ℕ
number_said (token.Dimension n) = Some n
number_said _ = None

-- the character that a token says, if any
abbrev pub char_said : StyleToken → Option ℕ
char_said (token.Char c) = Some c
char_said _ = None

-- the colors that tokens say, in order
abbrev pub colors_of : List StyleToken → List (Option Color)
colors_of ts = filter_map color_said ts

-- the attributes that they say
abbrev pub attributes_of : List StyleToken → List Attribute
attributes_of ts = filter_map attribute_said ts

-- the alignments that they say
abbrev pub aligns_of : List StyleToken → List Alignment
aligns_of ts = filter_map align_said ts

-- the numbers that they say
abbrev pub numbers_of : List StyleToken → List ℕ
numbers_of ts = filter_map number_said ts

-- the characters that they say
abbrev pub chars_of : List StyleToken → List ℕ
chars_of ts = filter_map char_said ts

-- the last color that is present
abbrev pub last_color : List (Option Color) → Option Color
last_color [] = None
last_color (color ∷ colors) = option_or (last_color colors) color

-- a style with these attributes more
abbrev pub all_added : CompoundStyle → List Attribute → CompoundStyle
all_added s [] = s
all_added s (a ∷ more) = all_added (attribute_added s a) more

-- the style of tokens: the first color or `none` is the foreground, the last of the later colors the background. It has all their attributes.
abbrev pub style_of : List StyleToken → CompoundStyle
style_of ts = all_added (text_style (first_or None (colors_of ts)) (last_color (drop 1 (colors_of ts))) no_attributes) (attributes_of ts)

-- the style of a line: the last alignment; the first number is the left margin, the last of the later ones the right
abbrev pub line_style_of : List StyleToken → LineStyle
line_style_of ts =
    record {
      compound_style = style_of ts;
      align = last_or Unspecified (aligns_of ts);
      left_margin = first_or 0 (numbers_of ts);
      right_margin = last_or 0 (drop 1 (numbers_of ts));
    }

-- the first character of tokens, or another where they have none, in their style
abbrev pub styled_char_of : ℕ → List StyleToken → StyledChar
styled_char_of c ts = styled_char (style_of ts) (first_or c (chars_of ts))

-- whether a token is no character
abbrev pub is_no_char : StyleToken → Bool
is_no_char (token.Char c) = false
is_no_char _ = true

-- how many tokens come before the first character
abbrev pub char_index : List StyleToken → ℕ
char_index ts = prefix_len is_no_char ts

-- the style of an ordered item: what comes before the first character is the number's style. That character and what comes after it are the suffix.
abbrev pub item_style_of : ℕ → List StyleToken → OrderedItemStyle
item_style_of c ts =
    record { index_style = style_of (take (char_index ts) ts); index_suffix = styled_char_of c (drop (char_index ts) ts) }
