-- What leads a plain terminal from one screen to another.
use Rattle.std.specs.Prelude.{◌≡◌, ℕ, ◌+◌, ◌*◌, ◌<◌, List, ◌++◌, length, take, drop, Some}
use Rattle.mad_screen.specs.Glyph.{Glyph}
use Rattle.mad_screen.specs.Grid.{Grid, IsGrid, plain_pen}
use Rattle.mad_screen.specs.Terminal.{after_bytes}
use Rattle.mad_screen.specs.Painting.{Paints}
use Rattle.mad_screen.specs.Pictures.{row_cells}

-- two screens of one size
pub record SameSize (a b : Grid) : Type 0 where
  pub width : a.width ≡ b.width
  pub height : a.height ≡ b.height

-- a terminal that shows the cells of a screen, with the plain pen; its cursor may be anywhere
pub record ShowsCells (g t : Grid) : Type 0 where
  pub grid : IsGrid t
  pub pen : t.pen ≡ plain_pen
  pub size : SameSize g t
  pub cells : t.cells ≡ g.cells

-- bytes that lead a plain terminal from one screen to another
abbrev pub LeadTo : Grid → Grid → List ℕ → Type 0
LeadTo old new bytes = (t : Grid) → ShowsCells old t → (after : Grid) × (after_bytes t bytes ≡ Some after) × ShowsCells new after

-- a screen on the way from one to another: its first `n` cells, along the rows, are the new ones
abbrev pub halfway : Grid → Grid → ℕ → Grid
halfway old new n = record old { cells = take n new.cells ++ drop n old.cells }

-- row `y` of two screens of one size, each with a cell for each position
pub record RowsOf (old new : Grid) (y : ℕ) (a b : List Glyph) : Type 0 where
  pub size : SameSize old new
  pub same : length old.cells ≡ length new.cells
  pub full : length new.cells ≡ new.height * new.width
  pub row : y < new.height
  pub old_row : a ≡ row_cells old y
  pub new_row : b ≡ row_cells new y

-- Bytes after which the first `x` cells of row `y` are the new ones too, where all before the row were. The row's cells are
-- these, whichever screens it is of.
abbrev pub AddsCells : List Glyph → List Glyph → ℕ → ℕ → List ℕ → List ℕ → Type 0
AddsCells a b y x before after =
    (old new : Grid) → RowsOf old new y a b → LeadTo old (halfway old new (y * new.width)) before
    → LeadTo old (halfway old new (y * new.width + x)) after

-- bytes that end with some that paint these cells
abbrev pub AddsPaint : List ℕ → List Glyph → List ℕ → Type 0
AddsPaint before cells after = (bytes : List ℕ) × (after ≡ before ++ bytes) × Paints bytes cells
