-- Rows of tables.
use Rattle.std.specs.Prelude.{ℕ, ◌+◌, Bool, true, false, not, ◌||◌, ◌&&◌, ◌==◌, List, [], ◌∷◌, drop, if◌then◌else◌}
use Rattle.markdown_marks.specs.Bytes.{is_blank_byte, first, is_blank, without_blanks}
use Rattle.markdown_marks.specs.declared.tables.Spot.{Spot}
use Rattle.markdown_marks.specs.declared.tables.Spot.TheVariants.{Front, Colon, Hyphens, Back, Nowhere}

-- a row without the bar that is in front
abbrev pub without_bar : List ℕ → List ℕ
without_bar bytes = if first bytes == 124 then drop 1 bytes else bytes

-- a row without the blanks in front and the bar after them
abbrev pub row_of : List ℕ → List ℕ
row_of bytes = without_bar (without_blanks bytes)

-- one cell more, if there is something in it
abbrev pub last_cell : Bool → ℕ → ℕ
last_cell some count = if some then count + 1 else count

-- So many cells, and those that bars without a backslash right before them cut: what follows the last bar is a cell unless it is blank.
unfoldable pub cells_from : (escaped some : Bool) (count : ℕ) → List ℕ → ℕ
cells_from escaped some count [] = last_cell some count
cells_from escaped some count (b ∷ bs) =
    if (b == 124) && not escaped then cells_from false false (count + 1) bs
    else cells_from (b == 92) (some || not (is_blank_byte b)) count bs

-- how many cells a row has: a blank one has one
unfoldable pub cell_count : List ℕ → ℕ
cell_count bytes = if is_blank (row_of bytes) then 1 else cells_from false false 0 (row_of bytes)

-- ---- the row below the head

-- after the hyphens and colons of a cell
abbrev pub back_spot : ℕ → Spot
back_spot b = if is_blank_byte b then Back else Nowhere

-- where a byte leads in a cell
abbrev pub next_spot : Spot → ℕ → Spot
next_spot Front b = if is_blank_byte b then Front else if b == 58 then Colon else if b == 45 then Hyphens else Nowhere
next_spot Colon b = if b == 45 then Hyphens else Nowhere
next_spot Hyphens b = if b == 45 then Hyphens else if b == 58 then Back else back_spot b
next_spot Back b = back_spot b
next_spot Nowhere b = Nowhere

-- whether a cell may end here
abbrev pub ends_cell : Spot → Bool
ends_cell Hyphens = true
ends_cell Back = true
ends_cell _ = false

-- this is no row of delimiters
abbrev pub is_nowhere : Spot → Bool
is_nowhere Nowhere = true
is_nowhere _ = false

-- how many columns there are at the end of the row, none if it is no such row
abbrev pub columns_at_end : Spot → ℕ → ℕ
columns_at_end Front count = count
columns_at_end Hyphens count = count + 1
columns_at_end Back count = count + 1
columns_at_end _ count = 0

-- so many columns, and those that the rest of the row has, from this spot of a cell on
unfoldable pub columns_from : Spot → ℕ → List ℕ → ℕ
columns_from spot count [] = columns_at_end spot count
columns_from spot count (b ∷ bs) = if ends_cell spot && (b == 124) then columns_from Front (count + 1) bs else columns_from (next_spot spot b) count bs

-- how many columns a row of delimiters has, 0 if it is none: hyphens in each cell, and colons beside them
unfoldable pub delimited_columns : List ℕ → ℕ
delimited_columns bytes = columns_from Front 0 (row_of bytes)
