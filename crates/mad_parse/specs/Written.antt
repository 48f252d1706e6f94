-- The texts that styles are written as.
use Rattle.std.specs.Prelude.{ℕ, ◌+◌, ◌==◌, min, List, [], ◌∷◌, ◌++◌, Bool, true, false, Option, Some, None, codes, decimal, map, filter, encode_utf8, if◌then◌else◌}
use Rattle.std.specs.List.{join_with_byte}
use Rattle.mad_md.specs.declared.alignment.Alignment.{Alignment}
use Rattle.mad_md.specs.declared.alignment.Alignment.TheVariants.{Unspecified, Left, Center, Right}
use Rattle.mad_term.specs.Attributes.{has_attribute}
use Rattle.mad_term.specs.declared.attribute.Attribute.{Attribute}
use Rattle.mad_term.specs.declared.attribute.Attribute.TheVariants.{Reset, Bold, Dim, Italic, Underlined, Reverse, CrossedOut, Encircled, OverLined}
use Rattle.mad_term.specs.declared.attributes.Attributes.{Attributes}
use Rattle.mad_term.specs.declared.color.Color.{Color}
use Rattle.mad_term.specs.declared.color.Color.TheVariants as color
use Rattle.mad_style.specs.declared.compound_styles.CompoundStyle.{CompoundStyle}
use Rattle.mad_style.specs.declared.line_styles.LineStyle.{LineStyle}
use Rattle.mad_style.specs.declared.ordered_items.OrderedItemStyle.{OrderedItemStyle}
use Rattle.mad_style.specs.declared.styled_chars.StyledChar.{StyledChar}
use Rattle.mad_style.specs.StyledChars.{char_alone, char_style}
use Rattle.mad_parse.specs.Colors.{color_text}
use Rattle.mad_parse.specs.Names.{attribute_text, align_text}
use Rattle.mad_parse.specs.declared.tokens.StyleToken.{StyleToken}
use Rattle.mad_parse.specs.declared.tokens.StyleToken.TheVariants as token

-- the attributes that are written, in this order
abbrev pub written_attributes : List Attribute
written_attributes = Bold ∷ Dim ∷ Italic ∷ Underlined ∷ Reverse ∷ CrossedOut ∷ Encircled ∷ OverLined ∷ []

-- the text of a token; a color or an attribute that is Reset and an alignment that isn't specified have none
abbrev pub token_text : StyleToken → List ℕ
token_text (token.Char c) = encode_utf8 c
token_text (token.Color c) = color_text c
token_text (token.Attribute a) = attribute_text a
token_text (token.Align align) = align_text align
token_text (token.Dimension n) = decimal n
token_text token.None = codes "none"

-- whether a token has a text
abbrev pub has_text : StyleToken → Bool
has_text (token.Color color.Reset) = false
has_text (token.Attribute Reset) = false
has_text (token.Align Unspecified) = false
has_text _ = true

-- the text of tokens: those that have one, a space between two
abbrev pub tokens_text : List StyleToken → List ℕ
tokens_text ts = join_with_byte 32 (map token_text (filter has_text ts))

-- one token for a background that is present and not Reset
abbrev pub background_tokens : Option Color → List StyleToken
background_tokens None = []
background_tokens (Some color.Reset) = []
background_tokens (Some c) = token.Color c ∷ []

-- what is written for a foreground without a token: `none`, where a background is present
abbrev pub none_unless : Option Color → List StyleToken
none_unless None = []
none_unless (Some background) = token.None ∷ []

-- one token for a foreground that is present and not Reset; where a background is present, `none` for one without a token
abbrev pub foreground_tokens : Option Color → Option Color → List StyleToken
foreground_tokens None background = none_unless background
foreground_tokens (Some color.Reset) background = none_unless background
foreground_tokens (Some c) background = token.Color c ∷ []

-- one token for each attribute of a set that is written
abbrev pub attribute_tokens : Attributes → List StyleToken
attribute_tokens s = map token.Attribute (filter (has_attribute s) written_attributes)

-- the tokens that a style is written as
abbrev pub style_tokens : CompoundStyle → List StyleToken
style_tokens s =
    foreground_tokens s.object_style.foreground_color s.object_style.background_color
    ++ (background_tokens s.object_style.background_color ++ attribute_tokens s.object_style.attributes)

-- one token for an alignment that is specified
abbrev pub align_tokens : Alignment → List StyleToken
align_tokens Unspecified = []
align_tokens Left = token.Align Left ∷ []
align_tokens Center = token.Align Center ∷ []
align_tokens Right = token.Align Right ∷ []

-- two numbers for the margins, the left one first, each 65535 at most; none where both are 0
abbrev pub margin_tokens : ℕ → ℕ → List StyleToken
margin_tokens left right = if left + right == 0 then [] else token.Dimension (min left 65535) ∷ token.Dimension (min right 65535) ∷ []

-- the tokens that a line's style is written as: its style, its alignment, its margins
abbrev pub line_style_tokens : LineStyle → List StyleToken
line_style_tokens s = style_tokens s.compound_style ++ (align_tokens s.align ++ margin_tokens s.left_margin s.right_margin)

-- a character first, and then its style
abbrev pub styled_char_tokens : StyledChar → List StyleToken
styled_char_tokens c = token.Char (char_alone c) ∷ style_tokens (char_style c)

-- the style of the number, and then the suffix in its style
abbrev pub item_tokens : OrderedItemStyle → List StyleToken
item_tokens s = style_tokens s.index_style ++ styled_char_tokens s.index_suffix
