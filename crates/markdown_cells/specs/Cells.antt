-- Cells of a row of a table, and what the row of delimiters says of its columns. The row begins behind the bar that may be in front (`row_of`).
use Rattle.std.specs.Prelude.{ℕ, zero, suc, ◌+◌, ◌-◌, Bool, false, not, ◌&&◌, ◌==◌, List, [], ◌∷◌, ◌++◌, length, take, drop, slice_index, if◌then◌else◌}
use Rattle.std.specs.Str.Lossy.{utf8_lossy}
use Rattle.markdown_marks.specs.Bytes.{first, without_blanks}
use Rattle.markdown_marks.specs.Headings.{without_end}
use Rattle.mad_md.specs.declared.alignment.Alignment.{Alignment}
use Rattle.mad_md.specs.declared.alignment.Alignment.TheVariants.{Unspecified, Left, Center, Right}

-- how many bytes are before the bar that ends the first cell, or in all; a bar right after a backslash is text
unfoldable pub cell_len : Bool → List ℕ → ℕ
cell_len escaped [] = 0
cell_len escaped (b ∷ bs) = if (b == 124) && not escaped then 0 else 1 + cell_len (b == 92) bs

-- the first cell, without blanks at its ends
abbrev pub cell_of : List ℕ → List ℕ
cell_of row = without_end 32 9 (without_blanks (take (cell_len false row) row))

-- the row behind its first cell and the bar that ends it
abbrev pub after_cell : List ℕ → List ℕ
after_cell row = drop 1 (drop (cell_len false row) row)

-- a backslash that waits joins the text
abbrev pub with_waiting : List ℕ → Bool → List ℕ
with_waiting text waits = if waits then text ++ 92 ∷ [] else text

-- a byte joins the text, but a backslash waits
abbrev pub with_byte : List ℕ → ℕ → List ℕ
with_byte text b = if b == 92 then text else text ++ b ∷ []

-- a text, maybe a backslash that waits, and then these bytes, bars without the backslash right before them
unfoldable pub unbarred : List ℕ → Bool → List ℕ → List ℕ
unbarred text escaped [] = with_waiting text escaped
unbarred text escaped (b ∷ bs) = unbarred (with_byte (with_waiting text (escaped && not (b == 124))) b) (b == 92) bs

-- the text of the first cell of a row
abbrev pub cell_text : List ℕ → List ℕ
cell_text row = utf8_lossy (unbarred [] false (cell_of row))

-- the last byte, 0 if there is none
abbrev pub last_byte : List ℕ → ℕ
last_byte bytes = slice_index bytes (length bytes - 1)

-- a column with colons on both sides is centered, and one with a colon is aligned to its side
abbrev pub alignment : Bool → Bool → Alignment
alignment left right = if left && right then Center else if left then Left else if right then Right else Unspecified

-- what a cell of the row of delimiters says of its column
abbrev pub alignment_of : List ℕ → Alignment
alignment_of cell = alignment (first cell == 58) (last_byte cell == 58)

-- what the row of delimiters says of so many columns
unfoldable pub alignments : ℕ → List ℕ → List Alignment
alignments zero row = []
alignments (suc columns) row = alignment_of (cell_of row) ∷ alignments columns (after_cell row)
