-- What is told of the characters and cells of pieces, by their pens.
use Rattle.std.specs.Prelude.{◌≡◌, ℕ, List, map}
use Rattle.mad_term.specs.declared.styles.ContentStyle.{ContentStyle}
use Rattle.mad_screen.specs.Glyph.{Glyph, Look}
use Rattle.mad_screen.specs.Painting.{look_of_style}
use Rattle.mad_draw.specs.Pieces.{PennedChar, RowPiece, penned_chars}
use Rattle.mad_draw.specs.PennedCells.{penned_cells}

-- a character, by what is told of its pen
abbrev pub told_char : (Look → Look) → PennedChar → PennedChar
told_char tell c = record { char = c.char; pen = tell c.pen }

-- a cell, by what is told of its pen
abbrev pub told_cell : (Look → Look) → Glyph → Glyph
told_cell tell g = record { chars = g.chars; pen = tell g.pen }

-- the characters of pieces, so
abbrev pub told_chars : (Look → Look) → List RowPiece → List PennedChar
told_chars tell ps = map (told_char tell) (penned_chars ps)

-- the cells that a plain terminal shows of pieces, so
abbrev pub told_cells : (Look → Look) → List RowPiece → List Glyph
told_cells tell ps = map (told_cell tell) (penned_cells (penned_chars ps))

-- of what marks make of a style nothing is told
abbrev pub TellsNothing : (Look → Look) → (ℕ → ContentStyle → ContentStyle) → Type 0
TellsNothing tell paint = (v : ℕ) (style : ContentStyle) → tell (look_of_style (paint v style)) ≡ tell (look_of_style style)
