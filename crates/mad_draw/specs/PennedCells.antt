-- The cells of characters, each with its pen.
use Rattle.std.specs.Prelude.{ℕ, List, [], ◌∷◌, Some}
use Rattle.mad_characters.specs.Columns.{char_columns}
use Rattle.mad_screen.specs.Glyph.{Glyph}
use Rattle.mad_screen.specs.Painting.{attach}
use Rattle.mad_draw.specs.Pieces.{PennedChar}

-- What characters show, found from the end: the widthless ones that they begin with, and the cells of what follows these.
-- A widthless character is joined to the one before it.
abbrev pub penned_attached : List PennedChar → List ℕ × List Glyph
penned_attached [] = ([], [])
penned_attached (c ∷ cs) = attach (Some (char_columns c.char)) c.pen c.char (penned_attached cs)

-- the cells of characters
abbrev pub penned_cells : List PennedChar → List Glyph
penned_cells cs = (penned_attached cs).1
