-- The marks of links down the columns of tables.
use Rattle.std.specs.Prelude.{◌≡◌, ℕ, ◌+◌, true, List, [], ◌∷◌, ◌++◌, map, slice_index_or}
use Rattle.std.specs.List.{flat_map}
use Rattle.mad_md.specs.Flagged.{FlaggedChar, flagged_text}
use Rattle.mad_md.specs.Lines.{LineContent, StyledRuns, table_row}
use Rattle.mad_format.specs.LineRules.{LineRules}
use Rattle.mad_format.specs.declared.composite.FmtComposite.{FmtComposite}
use Rattle.mad_format.specs.declared.line.FmtLine.{FmtLine}
use Rattle.mad_format.specs.declared.line.FmtLine.TheVariants.{TableRow}
use Rattle.mad_mark_runs.specs.declared.mark_runs.MarkRun.{MarkRun}
use Rattle.mad_marks.specs.LineMarks.{counted_in, has_mark, said_counted}
use Rattle.mad_marks.specs.RowMarks.{MarkedChar, counted_marked, marked, numbered}
use Rattle.mad_marks.specs.RowNumbers.{count_in}
use Rattle.mad_sections.specs.Sections.{SectionContent}
use Rattle.mad_sections.specs.declared.gutters.Gutter.{Gutter}
use Rattle.mad_pages.specs.PageRows.{RowContent, behind}
use Rattle.mad_pages.specs.WholeTables.{IsWholeTable}
use Rattle.markdown_linked_pages.specs.CellMarks.{column_marks, counted_said, line_past, with_cell_marks}
use Rattle.markdown_linked_pages.specs.LinkedPageRows.{lead}

-- the cells of a line, if it is a row of a table
abbrev pub table_cells : FmtLine → List FmtComposite
table_cells (TableRow row) = row.cells.items
table_cells line = []

-- the counted characters of each of these cells, with the marks that runs give them behind so many
abbrev pub cells_marked : List MarkRun → ℕ → List FmtComposite → List (List MarkedChar)
cells_marked runs n [] = []
cells_marked runs n (c ∷ cs) = counted_marked (has_mark c.kind) (marked (has_mark c.kind) runs n (flagged_text c.compounds.items)) ∷ cells_marked runs (n + count_in has_mark c) cs

-- those of the cells of a row, with its own marks and its own number
abbrev pub row_cells : RowContent → List (List MarkedChar)
row_cells row = cells_marked row.marks row.number (table_cells row.line)

-- those of the column of this number in rows, from top to bottom
abbrev pub column_marked : ℕ → List RowContent → List MarkedChar
column_marked column rows = flat_map (λ (row : RowContent). slice_index_or (row_cells row) column []) rows

-- the same characters without marks
abbrev pub column_counted : ℕ → List RowContent → List FlaggedChar
column_counted column rows = flat_map (λ (row : RowContent). slice_index_or (map (counted_in has_mark) (table_cells row.line)) column []) rows

-- characters with these marks, in order; where there are no more, with none
abbrev pub given : List ℕ → List FlaggedChar → List MarkedChar
given values [] = []
given [] (c ∷ cs) = record { value = 0; char = c } ∷ given [] cs
given (value ∷ values) (c ∷ cs) = record { value = value; char = c } ∷ given values cs

-- THE LAW: down each column of a table the k-th counted character has the k-th of the column's marks
abbrev pub CellsHaveTheirMarks : Type 0
CellsHaveTheirMarks =
    (columns : List (List ℕ)) (rows : List RowContent) (column : ℕ) → column_marked column (with_cell_marks columns rows) ≡ given (slice_index_or columns column []) (column_counted column rows)

-- ---- the text

-- the counted characters of each of these cells, the first of which begins with this number, each with the mark of its number
abbrev pub cells_said : List MarkRun → ℕ → List StyledRuns → List (List MarkedChar)
cells_said runs n [] = []
cells_said runs n (cell ∷ cells) = numbered runs n (said_counted has_mark cell) ∷ cells_said runs (n + counted_said cell) cells

-- those of each cell of a line, if it is a row of a table
abbrev pub line_said : List MarkRun → ℕ → LineContent → List (List MarkedChar)
line_said runs n (table_row cells) = cells_said runs n cells
line_said runs n line = []

-- those of the column of this number in lines, from top to bottom
abbrev pub column_said : List MarkRun → ℕ → ℕ → List LineContent → List MarkedChar
column_said runs n column [] = []
column_said runs n column (line ∷ lines) = slice_index_or (line_said runs n line) column [] ++ column_said runs (line_past n line) column lines

-- THE LAW: where a section with links is shown as a whole table, each column has the counted characters that the text says, in order, each with the mark that
-- it has in the section
abbrev pub TablesHaveTheirMarks : Type 0
TablesHaveTheirMarks =
    (rules : LineRules) (room : ℕ) (section : SectionContent) (gutters : List Gutter) (fresh : ℕ) (lines : List FmtLine) (column : ℕ) → lead section.marks ≡ true → IsWholeTable rules room section.lines lines
    → column_marked column (with_cell_marks (column_marks section) (behind gutters fresh section.marks 0 true lines)) ≡ column_said section.marks 0 column section.lines
