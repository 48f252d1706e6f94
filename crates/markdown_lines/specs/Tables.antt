-- Tables.
use Rattle.std.specs.Prelude.{ℕ, zero, suc, ◌+◌, Bool, true, false, nat_lt, List, [], ◌∷◌, ◌++◌, map, if◌then◌else◌}
use Rattle.markdown_marks.specs.Tables.{row_of, cell_count}
use Rattle.markdown_marks.specs.Remaining.{Remaining}
use Rattle.mad_md.specs.Lines.{StyledRuns, LineContent, table_row, table_rule}
use Rattle.mad_md.specs.declared.alignment.Alignment.{Alignment}
use Rattle.mad_md.specs.declared.composite.CompositeStyle.TheVariants.{Paragraph}
use Rattle.markdown_cells.specs.Cells.{after_cell, cell_text, alignments}
use Rattle.markdown_lines.specs.Leaf.{cell_runs}
use Rattle.markdown_lines.specs.Links.{Defined, LinkSaid, leaf_addresses, links_at}

-- the first cell of a row, in bold or as it is
abbrev pub cell_said : List (List ℕ) → Bool → List ℕ → StyledRuns
cell_said labels bold row = record { style = Paragraph; runs = cell_runs labels bold (cell_text row) }

-- so many cells of a row
unfoldable pub cells : List (List ℕ) → Bool → ℕ → List ℕ → List StyledRuns
cells labels bold zero row = []
cells labels bold (suc columns) row = cell_said labels bold row ∷ cells labels bold columns (after_cell row)

-- how many cells are shown of a row: no more than there are columns
abbrev pub shown_cells : ℕ → List ℕ → ℕ
shown_cells columns bytes = if nat_lt (cell_count bytes) columns then cell_count bytes else columns

-- a row that shows so many of its cells at most
abbrev pub row_said : List (List ℕ) → Bool → ℕ → Remaining → LineContent
row_said labels bold columns line = table_row (cells labels bold (shown_cells columns line.bytes) (row_of line.bytes))

-- a rule and the rows below the head; where there are no rows, there is no rule
abbrev pub body : List (List ℕ) → ℕ → List Alignment → List Remaining → List LineContent
body labels columns rule [] = []
body labels columns rule (line ∷ lines) = table_rule rule ∷ map (row_said labels false columns) (line ∷ lines)

-- a table between two rules, whose head is in bold
abbrev pub ruled : List (List ℕ) → ℕ → List Alignment → Remaining → List Remaining → List LineContent
ruled labels columns rule head lines = table_rule rule ∷ row_said labels true columns head ∷ (body labels columns rule lines ++ table_rule rule ∷ [])

-- a table: a rule, the head in bold, a rule, the rows, a rule
unfoldable pub table_lines : List (List ℕ) → ℕ → List Remaining → List LineContent
table_lines labels columns (head ∷ delimiters ∷ lines) = ruled labels columns (alignments columns (row_of delimiters.bytes)) head lines
table_lines labels columns _ = []

-- ---- links

-- where the links of so many cells of a row lead
unfoldable pub cells_addresses : Defined → ℕ → List ℕ → List (List ℕ)
cells_addresses defined zero row = []
cells_addresses defined (suc columns) row = leaf_addresses defined (cell_text row) ++ cells_addresses defined columns (after_cell row)

-- where the links in the cells lead that are shown of a row
abbrev pub row_addresses : Defined → ℕ → Remaining → List (List ℕ)
row_addresses defined columns line = cells_addresses defined (shown_cells columns line.bytes) (row_of line.bytes)

-- the links of rows, the first of which is the line of this number
unfoldable pub rows_links : Defined → ℕ → ℕ → List Remaining → List LinkSaid
rows_links defined columns at [] = []
rows_links defined columns at (line ∷ lines) = links_at at (row_addresses defined columns line) ++ rows_links defined columns (at + 1) lines

-- the links of a table that begins at the line of this number: its head is behind a rule, and its rows are behind another
abbrev pub table_links : Defined → ℕ → ℕ → List Remaining → List LinkSaid
table_links defined columns at (head ∷ delimiters ∷ lines) = links_at (at + 1) (row_addresses defined columns head) ++ rows_links defined columns (at + 3) lines
table_links defined columns at _ = []
