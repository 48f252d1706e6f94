-- Screens as terminals show them: each half of a wide character is a space.
use Rattle.std.specs.Prelude.{ℕ, zero, suc, Bool, true, false, ◌&&◌, if◌then◌else◌, List, [], ◌∷◌, ◌++◌}
use Rattle.mad_screen.specs.Glyph.{Glyph, Look}
use Rattle.mad_screen.specs.Grid.{Grid, plain_pen, is_tail}
use Rattle.mad_screen.specs.Pictures.{same_look, row_cells}
use Rattle.mad_frames.specs.Whole.{is_cell_text, is_writable, tails_of}

-- the first `n` cells are tails in this pen
abbrev pub begin_tails : ℕ → Look → List Glyph → Bool
begin_tails zero pen gs = true
begin_tails (suc n) pen [] = false
begin_tails (suc n) pen (g ∷ gs) = is_tail g && (same_look g.pen pen && begin_tails n pen gs)

-- a cell begins a character that is whole, with the tails among the cells after it
abbrev pub begins_whole : Glyph → List Glyph → Bool
begins_whole g gs = is_cell_text g.chars && (is_writable g.pen && begin_tails (tails_of g.chars) g.pen gs)

-- a space in a pen, or in the plain pen where no piece can write that one
abbrev pub space_in : Look → Glyph
space_in p = record { chars = 32 ∷ []; pen = if is_writable p then p else plain_pen }

-- the first `n` of these cells are tails of a character before them; of the others each that is of no whole character is a space
abbrev pub mended_after : ℕ → List Glyph → List Glyph
mended_after n [] = []
mended_after (suc n) (g ∷ gs) = g ∷ mended_after n gs
mended_after zero (g ∷ gs) = if begins_whole g gs then g ∷ mended_after (tails_of g.chars) gs else space_in g.pen ∷ mended_after 0 gs

-- the cells of a row
abbrev pub mended_row : List Glyph → List Glyph
mended_row = mended_after 0

-- the first rows of a screen, n of them
abbrev pub mended_rows : Grid → ℕ → List Glyph
mended_rows g zero = []
mended_rows g (suc n) = mended_rows g n ++ mended_row (row_cells g n)

-- a screen whose halves are spaces
abbrev pub mended : Grid → Grid
mended g = record g { cells = mended_rows g g.height }
