-- The marks of a section's rows are those of its characters.
use Rattle.std.specs.Prelude.{◌≡◌, ℕ, true, List, []}
use Rattle.std.specs.List.{AllByRecursion, flat_map}
use Rattle.mad_md.specs.Flagged.{flagged_text}
use Rattle.mad_format.specs.declared.line.FmtLine.{FmtLine}
use Rattle.mad_format.specs.declared.line.FmtLine.TheVariants.{Normal, TableRow}
use Rattle.mad_mark_runs.specs.declared.mark_runs.MarkRun.{MarkRun}
use Rattle.mad_marks.specs.LineMarks.{all_counted, has_mark}
use Rattle.mad_marks.specs.RowMarks.{MarkedChar, counted_marked, marked, numbered}
use Rattle.mad_sections.specs.declared.gutters.Gutter.{Gutter}
use Rattle.mad_pages.specs.PageRows.{RowContent, behind}

-- the counted characters of a line, with the marks that these runs give them behind so many
abbrev pub line_marked : List MarkRun → ℕ → FmtLine → List MarkedChar
line_marked marks n (Normal l) = counted_marked (has_mark l.kind) (marked (has_mark l.kind) marks n (flagged_text l.compounds.items))
line_marked marks n line = []

-- those of a row, with its own marks and its own number
abbrev pub row_marked : RowContent → List MarkedChar
row_marked row = line_marked row.marks row.number row.line

-- a line that is no row of a table
abbrev pub IsNoTableRow : FmtLine → Type 0
IsNoTableRow (TableRow row) = ⊥
IsNoTableRow line = Unit {0}

-- THE LAW: over the rows of a section without tables, one below the other, the k-th counted character has the k-th mark of the section
abbrev pub RowsHaveTheirMarks : Type 0
RowsHaveTheirMarks =
    (gutters : List Gutter) (fresh : ℕ) (marks : List MarkRun) (lines : List FmtLine) → AllByRecursion IsNoTableRow lines
    → flat_map row_marked (behind gutters fresh marks 0 true lines) ≡ numbered marks 0 (all_counted has_mark lines)
