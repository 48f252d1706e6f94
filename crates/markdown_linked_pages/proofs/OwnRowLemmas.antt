-- Rows that take their marks of columns, as they are written.
use Rattle.std.proofs.Common.{◌≡◌, ℕ, List, [], ◌∷◌, ◌++◌, refl, sym, ap, ◌∙◌, append_assoc}
use Rattle.std.specs.List.{flat_map}
use Rattle.mad_format.specs.declared.line.FmtLine.{FmtLine}
use Rattle.mad_format.specs.declared.line.FmtLine.TheVariants.{Normal, TableRow, TableRule, HorizontalRule}
use Rattle.mad_format.specs.declared.table.FmtTableRow.{FmtTableRow}
use Rattle.mad_mark_runs.specs.declared.mark_runs.MarkRun.{MarkRun}
use Rattle.mad_pages.specs.PageRows.{RowContent}
use Rattle.markdown_linked_pages.specs.CellMarks.{columns_below, left_by, own_row, row_values, single_runs, with_cell_marks}

-- a row more
pub row_put : (written : RowContent → List ℕ) (before now all : List ℕ) (left next : List (List ℕ)) (row : RowContent) (rest : List RowContent) → now ≡ before ++ written (own_row left row row.line) → next ≡ left_by left row.line
    → before ++ flat_map written (with_cell_marks left (row ∷ rest)) ≡ all → now ++ flat_map written (with_cell_marks next rest) ≡ all
row_put written before now all left next row rest now_is next_is is =
    let own = written (own_row left row row.line) in
    ap (λ (l : List ℕ). l ++ flat_map written (with_cell_marks next rest)) now_is ∙ append_assoc before own (flat_map written (with_cell_marks next rest))
    ∙ ap (λ (c : List (List ℕ)). before ++ (own ++ flat_map written (with_cell_marks c rest))) next_is ∙ is

-- a row of a table with the marks that it took
pub own_table : (left : List (List ℕ)) (row : RowContent) (table : FmtTableRow) (marks : List MarkRun) → row.line ≡ TableRow table → marks ≡ single_runs 0 (row_values left table.cells.items) → record row { marks = marks; number = 0 } ≡ own_row left row row.line
own_table left row table marks line_is is = ap (λ (m : List MarkRun). record row { marks = m; number = 0 }) is ∙ ap (own_row left row) (sym line_is)

-- it leaves the columns below it
pub left_table : (left next : List (List ℕ)) (line : FmtLine) (table : FmtTableRow) → line ≡ TableRow table → next ≡ columns_below left table.cells.items → next ≡ left_by left line
left_table left next line table line_is is = is ∙ ap (left_by left) (sym line_is)

-- any other row is as it was
pub own_other : (left : List (List ℕ)) (row : RowContent) (line : FmtLine) → ((table : FmtTableRow) → line ≡ TableRow table → ⊥) → own_row left row line ≡ row
own_other left row (Normal l) other = refl
own_other left row (TableRow table) other = absurd (other table refl)
own_other left row (TableRule rule) other = refl
own_other left row HorizontalRule other = refl

-- and leaves all of the columns
pub left_other : (left : List (List ℕ)) (line : FmtLine) → ((table : FmtTableRow) → line ≡ TableRow table → ⊥) → left ≡ left_by left line
left_other left (Normal l) other = refl
left_other left (TableRow table) other = absurd (other table refl)
left_other left (TableRule rule) other = refl
left_other left HorizontalRule other = refl
