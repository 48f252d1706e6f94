-- What one cell of a screen shows: a character and the widthless ones joined to it, written with a pen.
use Rattle.std.specs.Prelude.{ℕ, List, Option}
use Rattle.mad_term.specs.declared.color.Color.{Color}
use Rattle.mad_screen.specs.declared.pen.Pen as pens
use Rattle.mad_term.specs.Attributes.{attribute_bits}

-- A pen as the definitions see it: three colors, `None` for the terminal's default, and a set of attributes. The set is a
-- number, with one bit for each attribute at its index.
pub record Look : Type 0 where
  pub fg : Option Color
  pub bg : Option Color
  pub underline : Option Color
  pub codes : ℕ

-- how a pen looks
abbrev pub look_of : pens.Pen → Look
look_of p = record { fg = p.fg; bg = p.bg; underline = p.underline; codes = attribute_bits p.codes }

-- A further column of a wide character is a tail, which has no characters.
pub record Glyph : Type 0 where
  pub chars : List ℕ
  pub pen : Look
