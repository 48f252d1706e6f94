-- Pieces at positions of the screen: what is written of them, and what the screen then shows. Cells that none of them covers keep what they had.
use Rattle.std.specs.Prelude.{◌≡◌, ℕ, ◌+◌, ◌<◌, ◌≤◌, List, ◌++◌, map, Some}
use Rattle.std.specs.List.{AllByRecursion, flat_map}
use Rattle.mad_term.specs.Commands.{move_to_bytes}
use Rattle.mad_screen.specs.Drawing.{Strip, cell_under, IsOutside}
use Rattle.mad_screen.specs.Grid.{Grid, IsGrid, plain_pen, cell_at}
use Rattle.mad_screen.specs.Terminal.{after_bytes}
use Rattle.mad_measure.specs.Areas.{IsWithinLimits}
use Rattle.mad_measure.specs.declared.area.Area.{Area}
use Rattle.mad_draw.specs.DrawnRows.{IsOnScreen}
use Rattle.mad_draw.specs.Pieces.{RowPiece, AreKnown, AreShownPieces, pieces_bytes, pieces_columns, penned_chars}
use Rattle.mad_draw.specs.PennedCells.{penned_cells}

-- pieces that are written from column x of row y on
pub record Placed : Type 0 where
  pub x : ℕ
  pub y : ℕ
  pub pieces : List RowPiece

-- ---- what is written

-- a move to the position, and then the pieces
abbrev pub one_placed_bytes : Placed → List ℕ
one_placed_bytes p = move_to_bytes p.x p.y ++ pieces_bytes p.pieces

-- the same of one after the other
abbrev pub placed_bytes : List Placed → List ℕ
placed_bytes ps = flat_map one_placed_bytes ps

-- ---- what is shown

-- the pieces show cells of their own, one at least, and all these are in the area
pub record IsPlacedIn (area : Area) (p : Placed) : Type 0 where
  pub shown : AreShownPieces p.pieces
  pub some : 0 < pieces_columns p.pieces
  pub from_left : area.left ≤ p.x
  pub to_right : p.x + pieces_columns p.pieces ≤ area.left + area.width
  pub from_top : area.top ≤ p.y
  pub to_bottom : p.y < area.top + area.height

-- the cells that the pieces show, from their position on
abbrev pub placed_strip : Placed → Strip
placed_strip p = record { x = p.x; y = p.y; bytes = pieces_bytes p.pieces; cells = penned_cells (penned_chars p.pieces) }

-- Each position of the area shows the cell of the last one that covers it; where none does, what it showed before. No cell outside the
-- area changes.
pub record ShowsPlaced (area : Area) (ps : List Placed) (old new : Grid) : Type 0 where
  pub width : new.width ≡ old.width
  pub height : new.height ≡ old.height
  pub cells : (x y : ℕ) → x < old.width → cell_at new x y ≡ cell_under (map placed_strip ps) x y (cell_at old x y)
  pub outside : (x y : ℕ) → x < old.width → IsOutside area.left area.top area.width area.height x y → cell_at new x y ≡ cell_at old x y

-- what a plain terminal shows that reads these bytes; the pen is plain again
abbrev pub ArePlacedShown : Area → List Placed → List ℕ → Type 0
ArePlacedShown area ps bytes =
    (g : Grid) → IsOnScreen area g
    → (new : Grid) × (after_bytes g bytes ≡ Some new) × IsGrid new × (new.pen ≡ plain_pen) × ShowsPlaced area ps g new

-- Pieces that are placed in an area show there, and nowhere else. The numbers of their colors have to be bytes, as in every style that
-- a program holds.
abbrev pub ShowsPlacedPieces : Type 0
ShowsPlacedPieces =
    (area : Area) (ps : List Placed) → IsWithinLimits area → AllByRecursion (λ p. AreKnown p.pieces) ps → AllByRecursion (IsPlacedIn area) ps
    → ArePlacedShown area ps (placed_bytes ps)
