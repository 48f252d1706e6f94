-- Rectangles: what is written of them, and what the screen then shows.
use Rattle.std.specs.Prelude.{◌≡◌, ℕ, zero, suc, ◌+◌, ◌-◌, ◌<◌, ◌==◌, List, [], ◌∷◌, ◌++◌, Option, Some, None, if◌then◌else◌}
use Rattle.mad_screen.specs.Drawing.{IsOutside}
use Rattle.mad_screen.specs.Glyph.{Glyph}
use Rattle.mad_screen.specs.Grid.{Grid, IsGrid, plain_pen, cell_at}
use Rattle.mad_screen.specs.Painting.{look_of_style}
use Rattle.mad_screen.specs.Terminal.{after_bytes}
use Rattle.mad_style.specs.StyledChars.{styled_char}
use Rattle.mad_draw.specs.Pieces.{IsColumnChar}
use Rattle.mad_draw.specs.DrawnRows.{IsOnScreen}
use Rattle.mad_draw.specs.Pieces.{RowPiece, char_piece, single_chars, spaces}
use Rattle.mad_draw.specs.PlacedPieces.{Placed}
use Rattle.mad_draw.specs.declared.rects.Rect.{Rect}
use Rattle.mad_draw.specs.declared.rects.RectBorderStyle.{RectBorderStyle}

-- ---- the border styles

-- ▛▀▜ ▐ ▟▄▙ ▌: half blocks, at the outside of their cells
abbrev pub half_width_outside : RectBorderStyle
half_width_outside =
    record { top_left = 0x259B; top = 0x2580; top_right = 0x259C; right = 0x2590; bottom_right = 0x259F; bottom = 0x2584; bottom_left = 0x2599; left = 0x258C }

-- ┌─┐ │ ┘─└ │: lines with square corners
abbrev pub middle_square_line : RectBorderStyle
middle_square_line =
    record { top_left = 0x250C; top = 0x2500; top_right = 0x2510; right = 0x2502; bottom_right = 0x2518; bottom = 0x2500; bottom_left = 0x2514; left = 0x2502 }

-- the same with round corners: ╭ ╮ ╯ ╰
abbrev pub middle_round_line : RectBorderStyle
middle_round_line = record middle_square_line { top_left = 0x256D; top_right = 0x256E; bottom_right = 0x256F; bottom_left = 0x2570 }

-- spaces
abbrev pub bland : RectBorderStyle
bland = record { top_left = 32; top = 32; top_right = 32; right = 32; bottom_right = 32; bottom = 32; bottom_left = 32; left = 32 }

-- ---- what is written

-- a border character in the rectangle's colors
abbrev pub border : Rect → ℕ → RowPiece
border r c = char_piece (styled_char r.colors c)

-- an edge, at row y: its first character, the middle one over all columns between, and its last, each a piece of its own
abbrev pub edge : Rect → ℕ → ℕ → ℕ → ℕ → Placed
edge r y first middle last =
    record { x = r.area.left; y = y; pieces = border r first ∷ (single_chars (styled_char r.colors middle) (r.area.width - 2) ++ border r last ∷ []) }

-- the sides of a filled rectangle at row y, with spaces between, as one piece
abbrev pub filled_sides : Rect → ℕ → List Placed
filled_sides r y =
    record { x = r.area.left; y = y; pieces = border r r.border_style.left ∷ (spaces r.colors (r.area.width - 2) ++ border r r.border_style.right ∷ []) } ∷ []

-- those of one that isn't filled, each at a position of its own
abbrev pub open_sides : Rect → ℕ → List Placed
open_sides r y =
    record { x = r.area.left; y = y; pieces = border r r.border_style.left ∷ [] }
    ∷ record { x = r.area.left + (r.area.width - 1); y = y; pieces = border r r.border_style.right ∷ [] } ∷ []

-- the sides at row y
abbrev pub sides : Rect → ℕ → List Placed
sides r y = if r.fill then filled_sides r y else open_sides r y

-- the sides at `count` rows below the top one
abbrev pub sides_below : Rect → ℕ → List Placed
sides_below r zero = []
sides_below r (suc count) = sides_below r count ++ sides r (r.area.top + suc count)

-- the top edge stands in the area's first row, from corner to corner
abbrev pub top_edge : Rect → Placed
top_edge r = edge r r.area.top r.border_style.top_left r.border_style.top r.border_style.top_right

-- the bottom edge stands in the area's last row, from corner to corner
abbrev pub bottom_edge : Rect → Placed
bottom_edge r = edge r (r.area.top + (r.area.height - 1)) r.border_style.bottom_left r.border_style.bottom r.border_style.bottom_right

-- a rectangle: its top edge, its sides row by row, and its bottom edge
abbrev pub rect_pieces : Rect → List Placed
rect_pieces r = top_edge r ∷ (sides_below r (r.area.height - 2) ++ bottom_edge r ∷ [])

-- ---- what is shown

-- each border character takes one column
pub record AreBorderChars (s : RectBorderStyle) : Type 0 where
  pub top_left : IsColumnChar s.top_left
  pub top : IsColumnChar s.top
  pub top_right : IsColumnChar s.top_right
  pub right : IsColumnChar s.right
  pub bottom_right : IsColumnChar s.bottom_right
  pub bottom : IsColumnChar s.bottom
  pub bottom_left : IsColumnChar s.bottom_left
  pub left : IsColumnChar s.left

-- of an edge this wide, the character in column i
abbrev pub edge_char : ℕ → ℕ → ℕ → ℕ → ℕ → ℕ
edge_char first middle last width i = if i == 0 then first else if i + 1 == width then last else middle

-- The border character in column i of row j of the rectangle, if there is one. In a rectangle of one row the bottom edge is over the top one.
abbrev pub border_at : Rect → ℕ → ℕ → Option ℕ
border_at r i j =
    if j + 1 == r.area.height then Some (edge_char r.border_style.bottom_left r.border_style.bottom r.border_style.bottom_right r.area.width i)
    else if j == 0 then Some (edge_char r.border_style.top_left r.border_style.top r.border_style.top_right r.area.width i)
    else if i == 0 then Some r.border_style.left
    else if i + 1 == r.area.width then Some r.border_style.right
    else None

-- a character in the rectangle's colors, in a cell
abbrev pub colored_cell : Rect → ℕ → Glyph
colored_cell r c = record { chars = c ∷ []; pen = look_of_style r.colors.object_style }

-- what a cell inside the border shows: a space where the rectangle is filled, else what it showed before
abbrev pub inner_cell : Rect → Glyph → Glyph
inner_cell r before = if r.fill then colored_cell r 32 else before

-- what a cell shows with this border character, or without one
abbrev pub cell_with : Rect → Option ℕ → Glyph → Glyph
cell_with r None before = inner_cell r before
cell_with r (Some c) before = colored_cell r c

-- the screen has the rectangle on it, and no cell outside its area has changed
pub record ShowsRect (r : Rect) (old new : Grid) : Type 0 where
  pub width : new.width ≡ old.width
  pub height : new.height ≡ old.height
  pub inside : (i j : ℕ) → i < r.area.width → j < r.area.height
      → cell_at new (r.area.left + i) (r.area.top + j) ≡ cell_with r (border_at r i j) (cell_at old (r.area.left + i) (r.area.top + j))
  pub outside : (x y : ℕ) → x < old.width → IsOutside r.area.left r.area.top r.area.width r.area.height x y → cell_at new x y ≡ cell_at old x y

-- what a plain terminal shows that reads these bytes; the pen is plain again
abbrev pub IsRectShown : Rect → List ℕ → Type 0
IsRectShown r bytes =
    (g : Grid) → IsOnScreen r.area g
    → (new : Grid) × (after_bytes g bytes ≡ Some new) × IsGrid new × (new.pen ≡ plain_pen) × ShowsRect r g new
