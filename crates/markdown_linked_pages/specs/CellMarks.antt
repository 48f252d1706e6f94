-- The marks of links in the cells of tables. The lines of cells stand side by side, so columns take turns in the rows that are drawn, and each takes its characters
-- from top to bottom.
use Rattle.std.specs.Prelude.{ℕ, zero, suc, ◌+◌, List, [], ◌∷◌, ◌++◌, length, drop, if◌then◌else◌}
use Rattle.mad_format.specs.declared.composite.FmtComposite.{FmtComposite}
use Rattle.mad_format.specs.declared.line.FmtLine.{FmtLine}
use Rattle.mad_format.specs.declared.line.FmtLine.TheVariants.{TableRow}
use Rattle.mad_mark_runs.specs.Marks.{value_at}
use Rattle.mad_mark_runs.specs.declared.mark_runs.MarkRun.{MarkRun}
use Rattle.mad_marks.specs.LineMarks.{has_mark, said_counted}
use Rattle.mad_marks.specs.RowNumbers.{count_in}
use Rattle.mad_md.specs.Lines.{LineContent, StyledRuns, normal, table_row}
use Rattle.mad_pages.specs.PageRows.{RowContent}
use Rattle.mad_sections.specs.Sections.{SectionContent}
use Rattle.markdown_linked_pages.specs.LinkedPageRows.{lead}

-- ---- the marks of columns

-- the marks of so many counted characters, the first of which has this number
abbrev pub values_at : List MarkRun → ℕ → ℕ → List ℕ
values_at runs n zero = []
values_at runs n (suc count) = value_at runs n ∷ values_at runs (n + 1) count

-- how many counted characters a composite or a cell says
abbrev pub counted_said : StyledRuns → ℕ
counted_said said = length (said_counted has_mark said)

-- the marks of each cell of a row whose first counted character has this number
abbrev pub cells_values : List MarkRun → ℕ → List StyledRuns → List (List ℕ)
cells_values runs n [] = []
cells_values runs n (cell ∷ cells) = values_at runs n (counted_said cell) ∷ cells_values runs (n + counted_said cell) cells

-- the number behind the cells of such a row
abbrev pub number_past : ℕ → List StyledRuns → ℕ
number_past n [] = n
number_past n (cell ∷ cells) = number_past (n + counted_said cell) cells

-- columns, each on top of one that is below it
abbrev pub on_top : List (List ℕ) → List (List ℕ) → List (List ℕ)
on_top [] below = below
on_top (column ∷ columns) [] = column ∷ columns
on_top (column ∷ columns) (low ∷ below) = (column ++ low) ∷ on_top columns below

-- the marks of each cell of a line, if it is a row of a table
abbrev pub line_values : List MarkRun → ℕ → LineContent → List (List ℕ)
line_values runs n (table_row cells) = cells_values runs n cells
line_values runs n line = []

-- the number behind a line
abbrev pub line_past : ℕ → LineContent → ℕ
line_past n (normal said) = n + counted_said said
line_past n (table_row cells) = number_past n cells
line_past n line = n

-- the marks of the columns of lines, each from top to bottom, where the first counted character of the lines has this number
abbrev pub columns_values : List MarkRun → ℕ → List LineContent → List (List ℕ)
columns_values runs n [] = []
columns_values runs n (line ∷ lines) = on_top (line_values runs n line) (columns_values runs (line_past n line) lines)

-- those of the tables of a section, where its marks are those of links
abbrev pub column_marks : SectionContent → List (List ℕ)
column_marks section = if lead section.marks then columns_values section.marks 0 section.lines else []

-- ---- the marks of rows

-- so many marks of a column; where it has no more, none
abbrev pub first_values : ℕ → List ℕ → List ℕ
first_values zero values = []
first_values (suc count) [] = 0 ∷ first_values count []
first_values (suc count) (value ∷ values) = value ∷ first_values count values

-- the marks that the cells of a row take of columns: of each as many as its cell counts
abbrev pub row_values : List (List ℕ) → List FmtComposite → List ℕ
row_values [] cells = []
row_values (column ∷ columns) [] = []
row_values (column ∷ columns) (cell ∷ cells) = first_values (count_in has_mark cell) column ++ row_values columns cells

-- what is left of the columns then
abbrev pub columns_below : List (List ℕ) → List FmtComposite → List (List ℕ)
columns_below [] cells = []
columns_below (column ∷ columns) [] = column ∷ columns
columns_below (column ∷ columns) (cell ∷ cells) = drop (count_in has_mark cell) column ∷ columns_below columns cells

-- marks, each a run of its own behind so many characters
abbrev pub single_runs : ℕ → List ℕ → List MarkRun
single_runs n [] = []
single_runs n (value ∷ values) = record { value = value; end = n + 1 } ∷ single_runs (n + 1) values

-- a row that has this line, with the marks that it takes of columns, if it is one of a table
abbrev pub own_row : List (List ℕ) → RowContent → FmtLine → RowContent
own_row columns row (TableRow cells) = record row { marks = single_runs 0 (row_values columns cells.cells.items); number = 0 }
own_row columns row line = row

-- what a row with this line leaves of columns
abbrev pub left_by : List (List ℕ) → FmtLine → List (List ℕ)
left_by columns (TableRow cells) = columns_below columns cells.cells.items
left_by columns line = columns

-- THE DEFINITION: rows of which each of a table has the marks of its own cells
abbrev pub with_cell_marks : List (List ℕ) → List RowContent → List RowContent
with_cell_marks columns [] = []
with_cell_marks columns (row ∷ rows) = own_row columns row row.line ∷ with_cell_marks (left_by columns row.line) rows
