-- Rows of pieces in an area of the screen: what is written of them, and what the area shows.
use Rattle.std.specs.Prelude.{◌≡◌, ℕ, zero, suc, ◌+◌, ◌<◌, ◌≤◌, List, [], ◌∷◌, map, Some}
use Rattle.mad_screen.specs.Drawing.{drawing, ShowsRows}
use Rattle.mad_screen.specs.Grid.{Grid, IsGrid, plain_pen}
use Rattle.mad_screen.specs.Terminal.{after_bytes}
use Rattle.mad_measure.specs.declared.area.Area.{Area}
use Rattle.mad_draw.specs.Pieces.{RowPiece, FillsRow, pieces_bytes, penned_chars}
use Rattle.mad_draw.specs.PennedCells.{penned_cells}

-- ---- what is written

-- `count` rows from number y on
abbrev pub rows_from : (ℕ → List RowPiece) → ℕ → ℕ → List (List RowPiece)
rows_from row y zero = []
rows_from row y (suc count) = row y ∷ rows_from row (suc y) count

-- the bytes of an area's rows, each after a move to its position
abbrev pub rows_bytes : (ℕ → List RowPiece) → Area → List ℕ
rows_bytes row area = drawing area.left area.top (map pieces_bytes (rows_from row 0 area.height))

-- ---- what is shown

-- each row of the area fills the area's width exactly
abbrev pub FillArea : (ℕ → List RowPiece) → Area → Type 0
FillArea row area = (y : ℕ) → y < area.height → FillsRow area.width (row y)

-- the area is on the screen and has a column, and the pen is plain
pub record IsOnScreen (area : Area) (g : Grid) : Type 0 where
  pub grid : IsGrid g
  pub pen : g.pen ≡ plain_pen
  pub some : 0 < area.width
  pub columns : area.left + area.width ≤ g.width
  pub rows : area.top + area.height ≤ g.height

-- What a plain terminal does that reads these bytes. Each row of the area shows the row of its number, no cell outside the area
-- changes, and the pen is plain again.
abbrev pub AreRowsShown : (ℕ → List RowPiece) → Area → List ℕ → Type 0
AreRowsShown row area bytes =
    (g : Grid) → IsOnScreen area g
    → (new : Grid) × (after_bytes g bytes ≡ Some new) × IsGrid new × (new.pen ≡ plain_pen)
    × ShowsRows area.left area.top area.width area.height (λ y. penned_cells (penned_chars (row y))) g new
