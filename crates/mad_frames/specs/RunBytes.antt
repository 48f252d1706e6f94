-- How many bytes the runs of a row may take.
use Rattle.std.specs.Prelude.{◌≡◌, ℕ, zero, suc, ◌+◌, ◌<◌, ◌≤◌, true, false, if◌then◌else◌, List, length, slice_index_or}
use Rattle.mad_screen.specs.Glyph.{Glyph, Look}
use Rattle.mad_screen.specs.Grid.{blank, plain_pen, is_tail}
use Rattle.mad_screen.specs.Pictures.{same_look, cell_text}
use Rattle.mad_frames.specs.Bound.{longest_move, longest_style, change_bytes, cell_bytes}

-- what the first `n` cells may take that are to show others
abbrev pub most_to : List Glyph → List Glyph → ℕ → ℕ
most_to os ns zero = 0
most_to os ns (suc n) = most_to os ns n + cell_bytes (slice_index_or os n blank) (slice_index_or ns n blank)

-- what a pen may take: nothing if it is the plain one
abbrev pub style_bytes : Look → ℕ
style_bytes pen = if same_look pen plain_pen then 0 else longest_style

-- the same after a cell in the pen `before`: nothing if it is that pen
abbrev pub pen_bytes : Look → Look → ℕ
pen_bytes before pen = if same_look pen before then 0 else style_bytes pen

-- the pen of the cell before; before the first, the plain one
abbrev pub pen_before : List Glyph → ℕ → Look
pen_before gs zero = plain_pen
pen_before gs (suc n) = (slice_index_or gs n blank).pen

-- what the first `n` cells may take, written as pieces
abbrev pub pieces_to : List Glyph → ℕ → ℕ
pieces_to gs zero = 0
pieces_to gs (suc n) =
    let cell : Glyph = slice_index_or gs n blank in
    pieces_to gs n + (pen_bytes (pen_before gs n) cell.pen + length (cell_text cell))

-- a changed character begins at `x`: that cell, or a tail after it, is another
pub record BeginsChange (old new : List Glyph) (x : ℕ) : Type 0 where
  pub end : ℕ
  pub within : end ≤ length new
  pub tails : (i : ℕ) → x < i → i < end → is_tail (slice_index_or new i blank) ≡ true
  pub changed : ¬ ((i : ℕ) → x ≤ i → i < end → slice_index_or old i blank ≡ slice_index_or new i blank)

-- a changed character begins at `x`, and the cells from `end` up to it, written over, take no more bytes than a move may
pub record EndsGap (old new : List Glyph) (end x : ℕ) : Type 0 where
  pub after : end ≤ x
  pub within : x < length new
  pub head : is_tail (slice_index_or new x blank) ≡ false
  pub begins : BeginsChange old new x
  pub gap : pieces_to new x ≤ pieces_to new end + longest_move

-- The cells from `start` up to `end`, after a move, take no more than they may. They are pieces of their own, so the first may need
-- its pen whatever is before it.
abbrev pub IsPaid : List Glyph → List Glyph → ℕ → ℕ → Type 0
IsPaid old new start end =
    let first : Glyph = slice_index_or new start blank in
    change_bytes + length (cell_text first) + pieces_to new end + most_to old new start ≤ pieces_to new (start + 1) + most_to old new end
