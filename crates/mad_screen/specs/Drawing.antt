-- Rows that are drawn in an area of a screen.
use Rattle.std.specs.Prelude.{◌≡◌, ◌⊎◌, ℕ, suc, ◌+◌, ◌-◌, ◌^◌, ◌<◌, ◌≤◌, ◌==◌, nat_lt, nat_le, ◌&&◌, Bool, List, [], ◌∷◌, ◌++◌, length, Some, slice_index_or, if◌then◌else◌}
use Rattle.std.specs.List.{flat_map}
use Rattle.mad_term.specs.Commands.{move_to_bytes}
use Rattle.mad_screen.specs.Glyph.{Glyph}
use Rattle.mad_screen.specs.Grid.{Grid, IsGrid, plain_pen, cell_at, blank}
use Rattle.mad_screen.specs.Terminal.{after_bytes}
use Rattle.mad_screen.specs.Painting.{Paints}

-- rows of bytes one below the other, each after a move to the same column
abbrev pub drawing : ℕ → ℕ → List (List ℕ) → List ℕ
drawing left top [] = []
drawing left top (row ∷ rows) = move_to_bytes left top ++ (row ++ drawing left (suc top) rows)

-- each row's bytes paint its cells
abbrev pub PaintRows : List (List ℕ) → List (List Glyph) → Type 0
PaintRows [] [] = Unit {0}
PaintRows (t ∷ ts) (r ∷ rs) = Paints t r × PaintRows ts rs
PaintRows _ _ = ⊥

-- each row has this many columns
abbrev pub AreWide : ℕ → List (List Glyph) → Type 0
AreWide w [] = Unit {0}
AreWide w (r ∷ rs) = (length r ≡ w) × AreWide w rs

-- column x of row y lies outside an area of w columns and h rows
abbrev pub IsOutside : ℕ → ℕ → ℕ → ℕ → ℕ → ℕ → Type 0
IsOutside left top w h x y = (x < left) ⊎ (left + w ≤ x) ⊎ (y < top) ⊎ (top + h ≤ y)

-- the rows of a list, by their numbers; none past its end
abbrev pub listed : List (List Glyph) → ℕ → List Glyph
listed rows j = slice_index_or rows j []

-- an area of w columns and h rows shows these rows, and no cell outside it has changed
pub record ShowsRows (left top w h : ℕ) (row : ℕ → List Glyph) (old new : Grid) : Type 0 where
  pub width : new.width ≡ old.width
  pub height : new.height ≡ old.height
  pub inside : (i j : ℕ) → i < w → j < h → cell_at new (left + i) (top + j) ≡ slice_index_or (row j) i blank
  pub outside : (x y : ℕ) → x < old.width → IsOutside left top w h x y → cell_at new x y ≡ cell_at old x y

-- the area lies on the screen, which has the plain pen, and each row has the area's width
pub record FitsArea (left top w : ℕ) (rows : List (List Glyph)) (g : Grid) : Type 0 where
  pub grid : IsGrid g
  pub pen : g.pen ≡ plain_pen
  pub some : 0 < w
  pub columns : left + w ≤ g.width
  pub lines : top + length rows ≤ g.height
  pub wide : AreWide w rows

-- a plain terminal that reads these bytes shows these rows in the area, keeps every other cell, and has the plain pen
-- again
abbrev pub DrawnAs : ℕ → ℕ → List (List Glyph) → List ℕ → Type 0
DrawnAs left top rows bytes =
    (g : Grid) (w : ℕ) → FitsArea left top w rows g
    → (new : Grid) × (after_bytes g bytes ≡ Some new) × IsGrid new × (new.pen ≡ plain_pen) × ShowsRows left top w (length rows) (listed rows) g new

-- ---- cells side by side at any positions

-- the cursor goes to column x of row y, and these bytes write these cells
pub record Strip : Type 0 where
  pub x : ℕ
  pub y : ℕ
  pub bytes : List ℕ
  pub cells : List Glyph

-- strips one after another: to each the cursor goes first
abbrev pub strips_bytes : List Strip → List ℕ
strips_bytes = flat_map (λ s. move_to_bytes s.x s.y ++ s.bytes)

-- the bytes paint the cells, and these have positions on the screen
pub record FitsScreen (g : Grid) (s : Strip) : Type 0 where
  pub paints : Paints s.bytes s.cells
  pub some : 0 < length s.cells
  pub columns : s.x + length s.cells ≤ g.width
  pub row : s.y < g.height
  pub small_column : s.x < 2 ^ 16
  pub small_row : s.y < 2 ^ 16

-- whether column x of row y is among its positions
abbrev pub covers : Strip → ℕ → ℕ → Bool
covers s x y = (y == s.y) && nat_le s.x x && nat_lt x (s.x + length s.cells)

-- what a position shows after them: the cell of the last one that covers it, or what it showed before
abbrev pub cell_under : List Strip → ℕ → ℕ → Glyph → Glyph
cell_under [] x y before = before
cell_under (s ∷ strips) x y before =
    cell_under strips x y (if covers s x y then slice_index_or s.cells (x - s.x) blank else before)

-- the screen has the strips on it, and nothing else has changed
pub record ShowsStrips (strips : List Strip) (old new : Grid) : Type 0 where
  pub width : new.width ≡ old.width
  pub height : new.height ≡ old.height
  pub cells : (x y : ℕ) → x < old.width → cell_at new x y ≡ cell_under strips x y (cell_at old x y)
