-- What a text paints: the cells that the plain terminal shows of it.
use Rattle.std.specs.Prelude.{◌≡◌, ℕ, zero, suc, ◌+◌, ◌-◌, ◌^◌, ◌<◌, ◌≤◌, false, List, [], ◌∷◌, ◌++◌, length, Option, Some, None, IsSome, option_map, option_and_then, if◌then◌else◌}
use Rattle.std.specs.Str.{chars, IsUtf8}
use Rattle.std.specs.Int.RustNames.{bit_and}
use Rattle.unicode_width.specs.Width.{char_width}
use Rattle.mad_term.specs.declared.color.Color.{Color}
use Rattle.mad_term.specs.declared.color.Color.TheVariants.{Rgb, AnsiValue}
use Rattle.mad_term.specs.declared.attribute.Attribute.TheVariants as attributes
use Rattle.mad_term.specs.declared.styles.ContentStyle.{ContentStyle}
use Rattle.mad_term.specs.Attributes.{attribute_bits, has_attribute}
use Rattle.mad_term.specs.Color.{color_number}
use Rattle.mad_characters.specs.Columns.{char_columns}
use Rattle.mad_screen.specs.Glyph.{Glyph, Look}
use Rattle.mad_screen.specs.Grid.{Grid, IsGrid, plain_pen, painted, glyphs}
use Rattle.mad_screen.specs.Terminal.{Leads, resting}

-- ---- characters

-- A text's cells are found from its end: the widthless characters that it begins with, and the cells of what follows them.
abbrev pub attach : Option ℕ → Look → ℕ → List ℕ × List Glyph → List ℕ × List Glyph
attach None pen c r = r
attach (Some zero) pen c r = (c ∷ r.0, r.1)
attach (Some (suc k)) pen c r = ([], glyphs (c ∷ r.0) k pen ++ r.1)

-- the same of a whole text in one pen: each character is attached, from the end of the text to its front
abbrev pub attached : Look → List ℕ → List ℕ × List Glyph
attached pen [] = ([], [])
attached pen (c ∷ cs) = attach (char_width false c) pen c (attached pen cs)

-- the cells that characters show in a pen: each with the widthless ones after it, and its tails
abbrev pub cells_of : Look → List ℕ → List Glyph
cells_of pen cs = (attached pen cs).1

-- none is a control character
abbrev pub IsPrinted : List ℕ → Type 0
IsPrinted [] = Unit {0}
IsPrinted (c ∷ cs) = IsSome (char_width false c) × IsPrinted cs

-- the first one takes columns
abbrev pub IsWhole : List ℕ → Type 0
IsWhole [] = Unit {0}
IsWhole (c ∷ cs) = 0 < char_columns c

-- characters that show cells of their own: no control characters, and no widthless one in front
pub record IsShown (cs : List ℕ) : Type 0 where
  pub printed : IsPrinted cs
  pub whole : IsWhole cs

-- ---- what a text paints

-- n columns are free from the cursor on
pub record HasColumns (g : Grid) (n : ℕ) : Type 0 where
  pub grid : IsGrid g
  pub row : g.y < g.height
  pub columns : g.x + n ≤ g.width

-- Characters that, read with the plain pen where there are columns for these cells, write them from the cursor on and
-- leave the plain pen.
abbrev pub CharsPaint : List ℕ → List Glyph → Type 0
CharsPaint cs gs = (g : Grid) → HasColumns g (length gs) → g.pen ≡ plain_pen → Leads (resting g) cs (resting (painted g gs))

-- bytes whose characters do so
pub record Paints (bytes : List ℕ) (cells : List Glyph) : Type 0 where
  pub text : IsUtf8 bytes
  pub paints : CharsPaint (chars bytes) cells

-- ---- styles

-- a color as the plain terminal keeps it: none for the default, and a named one by its number
abbrev pub shown_color : Color → Option Color
shown_color (Rgb r g b) = Some (Rgb r g b)
shown_color c = option_map AnsiValue (color_number c)

-- The pen that a style writes with, where the pen was plain. Reset comes after the colors, before the other attributes, and
-- isn't kept itself. 2 ^ 24 - 2 ^ 1 has the bits of all attributes but Reset.
abbrev pub look_of_style : ContentStyle → Look
look_of_style s =
    let codes = bit_and (attribute_bits s.attributes) (2 ^ 24 - 2 ^ 1) in
    if has_attribute s.attributes attributes.Reset then record plain_pen { codes = codes }
    else record {
      fg = option_and_then shown_color s.foreground_color;
      bg = option_and_then shown_color s.background_color;
      underline = option_and_then shown_color s.underline_color;
      codes = codes;
    }

-- the cells of a text in a style
abbrev pub piece_cells : ContentStyle → List ℕ → List Glyph
piece_cells s text = cells_of (look_of_style s) (chars text)
