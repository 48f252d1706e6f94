-- The bytes of colors, attributes and pieces.
use Rattle.std.specs.Prelude.{◌≡◌, ℕ, ◌+◌, ◌==◌, ◌||◌, not, List, [], ◌∷◌, ◌++◌, Option, Some, None, is_some, if◌then◌else◌}
use Rattle.std.specs.List.{flat_map, repeat}
use Rattle.mad_term.specs.declared.attribute.Attribute.{Attribute}
use Rattle.mad_term.specs.declared.attributes.Attributes.{Attributes}
use Rattle.mad_term.specs.declared.color.Color.{Color}
use Rattle.mad_term.specs.declared.color.Color.TheVariants.{Rgb}
use Rattle.mad_term.specs.declared.styles.ContentStyle.{ContentStyle}
use Rattle.mad_term.specs.Attribute.{all_attributes, attribute_code}
use Rattle.mad_term.specs.Attributes.{attribute_bits, has_attribute}
use Rattle.mad_term.specs.Color.{color_number, IsColorOrNone}
use Rattle.mad_term.specs.Commands.{sgr_bytes}

-- the numbers that set a color of the palette, or the default where there is no number
abbrev pub palette_numbers : ℕ → Option ℕ → List ℕ
palette_numbers kind None = (kind + 1) ∷ []
palette_numbers kind (Some n) = kind ∷ 5 ∷ n ∷ []

-- The numbers of the command that sets a color: first what is colored, or one more where it gets its default. The
-- foreground is 38, the background 48, the underline 58.
abbrev pub color_numbers : ℕ → Color → List ℕ
color_numbers kind (Rgb r g b) = kind ∷ 2 ∷ r ∷ g ∷ b ∷ []
color_numbers kind color = palette_numbers kind (color_number color)

-- the command that sets a color of this kind
abbrev pub color_bytes : ℕ → Color → List ℕ
color_bytes kind color = sgr_bytes (color_numbers kind color)

-- the command that sets the foreground
abbrev pub foreground_bytes : Color → List ℕ
foreground_bytes = color_bytes 38

-- the command that sets the background
abbrev pub background_bytes : Color → List ℕ
background_bytes = color_bytes 48

-- the command that sets the underline's color
abbrev pub underline_bytes : Color → List ℕ
underline_bytes = color_bytes 58

-- the command that sets an attribute
abbrev pub attribute_bytes : Attribute → List ℕ
attribute_bytes a = sgr_bytes (attribute_code a ∷ [])

-- the commands of a set's attributes, one for each, in the order of the table of codes
abbrev pub attributes_bytes : Attributes → List ℕ
attributes_bytes s = flat_map (λ a. if has_attribute s a then attribute_bytes a else []) all_attributes

-- the command of a color, if it is present
abbrev pub present_bytes : (Color → List ℕ) → Option Color → List ℕ
present_bytes bytes None = []
present_bytes bytes (Some color) = bytes color

-- the numbers of a style's colors are bytes, as they are in every style that a program holds
pub record IsStyle (s : ContentStyle) : Type 0 where
  pub foreground : IsColorOrNone s.foreground_color
  pub background : IsColorOrNone s.background_color
  pub underline : IsColorOrNone s.underline_color

-- the style sets nothing
pub record IsUnstyled (s : ContentStyle) : Type 0 where
  pub foreground : s.foreground_color ≡ None
  pub background : s.background_color ≡ None
  pub underline : s.underline_color ≡ None
  pub attributes : attribute_bits s.attributes ≡ 0

-- what a style writes before a text: background, foreground, underline color, attributes, each if it is present
abbrev pub opening_bytes : ContentStyle → List ℕ
opening_bytes s =
    present_bytes background_bytes s.background_color
    ++ (present_bytes foreground_bytes s.foreground_color
    ++ (present_bytes underline_bytes s.underline_color
    ++ attributes_bytes s.attributes))

-- What a style writes after a text, so that the pen is plain again: code 0 after an underline color or an attribute. Else
-- the default of each color that was written, the background's first.
abbrev pub closing_bytes : ContentStyle → List ℕ
closing_bytes s =
    if is_some s.underline_color || not (attribute_bits s.attributes == 0) then sgr_bytes (0 ∷ [])
    else present_bytes (λ _. sgr_bytes (49 ∷ [])) s.background_color
    ++ present_bytes (λ _. sgr_bytes (39 ∷ [])) s.foreground_color

-- a piece: one text in one style
abbrev pub piece_bytes : ContentStyle → List ℕ → List ℕ
piece_bytes style text = opening_bytes style ++ (text ++ closing_bytes style)

-- a text `count` times in one style, as one piece; none at all writes nothing
abbrev pub styled_repeat_bytes : ContentStyle → List ℕ → ℕ → List ℕ
styled_repeat_bytes style text count = if count == 0 then [] else piece_bytes style (repeat count text)
