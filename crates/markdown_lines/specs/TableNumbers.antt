-- Which links the runs of a table belong to. Its links are numbered cell by cell, the head's first.
use Rattle.std.specs.Prelude.{ℕ, zero, suc, ◌+◌, Bool, true, false, List, [], ◌∷◌, ◌++◌, length}
use Rattle.markdown_marks.specs.Remaining.{Remaining}
use Rattle.markdown_lines.specs.LinkNumbers.{cell_numbers, after_links}
use Rattle.markdown_lines.specs.Links.{Defined, leaf_addresses}
use Rattle.markdown_cells.specs.Cells.{after_cell, cell_text}
use Rattle.markdown_marks.specs.Tables.{row_of}
use Rattle.markdown_lines.specs.Tables.{shown_cells, row_addresses}

-- of so many cells of a row, which come after so many links
unfoldable pub cells_numbers : Defined → Bool → (before columns : ℕ) → List ℕ → List ℕ
cells_numbers defined bold before zero row = []
cells_numbers defined bold before (suc columns) row =
    after_links before (cell_numbers defined.labels bold (cell_text row)) ++ cells_numbers defined bold (before + length (leaf_addresses defined (cell_text row))) columns (after_cell row)

-- of a row that shows so many of its cells at most
abbrev pub line_numbers : Defined → Bool → (before columns : ℕ) → Remaining → List ℕ
line_numbers defined bold before columns line = cells_numbers defined bold before (shown_cells columns line.bytes) (row_of line.bytes)

-- of rows below the head
unfoldable pub lines_numbers : Defined → (before columns : ℕ) → List Remaining → List ℕ
lines_numbers defined before columns [] = []
lines_numbers defined before columns (line ∷ lines) = line_numbers defined false before columns line ++ lines_numbers defined (before + length (row_addresses defined columns line)) columns lines

-- of a head and the rows below it
abbrev pub ruled_numbers : Defined → (before columns : ℕ) → Remaining → List Remaining → List ℕ
ruled_numbers defined before columns head lines = line_numbers defined true before columns head ++ lines_numbers defined (before + length (row_addresses defined columns head)) columns lines

-- of a table that comes after so many links
abbrev pub table_numbers : Defined → (before columns : ℕ) → List Remaining → List ℕ
table_numbers defined before columns (head ∷ delimiters ∷ lines) = ruled_numbers defined before columns head lines
table_numbers defined before columns _ = []
