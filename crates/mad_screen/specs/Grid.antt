-- A screen: its cells, the cursor and the pen.
use Rattle.std.specs.Prelude.{◌≡◌, ℕ, suc, ◌+◌, ◌-◌, ◌*◌, ◌≤◌, ◌&&◌, nat_lt, Bool, true, false, List, [], ◌∷◌, length, Option, Some, None, if◌then◌else◌, replicate, slice_index_or, slice_set}
use Rattle.mad_screen.specs.Glyph.{Glyph, Look}

-- the plain pen: no color, no attribute
abbrev pub plain_pen : Look
plain_pen = record { fg = None; bg = None; underline = None; codes = 0 }

-- a space with the plain pen, as every cell is at first
abbrev pub blank : Glyph
blank = record { chars = 32 ∷ []; pen = plain_pen }

-- A screen. Its cells are the rows from the top, each from the left. The cursor is at column x of row y, and x is the width
-- once the row's last column was written.
pub record Grid : Type 0 where
  pub width : ℕ
  pub height : ℕ
  pub cells : List Glyph
  pub x : ℕ
  pub y : ℕ
  pub pen : Look

-- a cell for each position, and the cursor in a row of the screen (in row 0 where there is none)
pub record IsGrid (g : Grid) : Type 0 where
  pub full : length g.cells ≡ g.height * g.width
  pub column : g.x ≤ g.width
  pub row : g.y ≤ g.height - 1

-- a screen at first
abbrev pub empty_grid : ℕ → ℕ → Grid
empty_grid width height = record { width = width; height = height; cells = replicate (height * width) blank; x = 0; y = 0; pen = plain_pen }

-- the cell in column x of row y
abbrev pub cell_at : Grid → ℕ → ℕ → Glyph
cell_at g x y = slice_index_or g.cells (y * g.width + x) blank

-- that cell, if there is such a column and row
abbrev pub cell_on_screen : Grid → ℕ → ℕ → Option Glyph
cell_on_screen g x y = if nat_lt x g.width && nat_lt y g.height then Some (cell_at g x y) else None

-- these cells in place of those from the i-th on
abbrev pub put_list : List Glyph → ℕ → List Glyph → List Glyph
put_list cells i [] = cells
put_list cells i (g ∷ gs) = put_list (slice_set cells i g) (suc i) gs

-- these cells from the cursor on, and the cursor after them
unfoldable pub painted : Grid → List Glyph → Grid
painted g gs = record g { cells = put_list g.cells (g.y * g.width + g.x) gs; x = g.x + length gs }

-- a character with those joined to it, over k + 1 columns: itself and k tails
abbrev pub glyphs : List ℕ → ℕ → Look → List Glyph
glyphs chars k pen = record { chars = chars; pen = pen } ∷ replicate k (record { chars = []; pen = pen })

-- whether there are no characters
abbrev pub has_none : List ℕ → Bool
has_none [] = true
has_none (c ∷ cs) = false

-- a further column of a wide character
abbrev pub is_tail : Glyph → Bool
is_tail g = has_none g.chars
