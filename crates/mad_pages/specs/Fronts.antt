-- What stands in front of lines.
use Rattle.std.specs.Prelude.{ℕ, Bool, false, List, [], Option, Some, None, slice_get}
use Rattle.mad_format.specs.declared.line.FmtLine.{FmtLine}
use Rattle.mad_mark_runs.specs.declared.mark_runs.MarkRun.{MarkRun}
use Rattle.mad_sections.specs.declared.gutters.Gutter.{Gutter}
use Rattle.mad_pages.specs.PageRows.{RowContent}
use Rattle.mad_pages.specs.declared.fronts.Front.{Front}

-- gutters, and how many of the last have their first face; the marks from a line on, and how many counted characters stand before it; whether it is of the
-- head of a table
pub record FrontContent : Type 0 where
  pub gutters : List Gutter
  pub fresh : ℕ
  pub marks : List MarkRun
  pub number : ℕ
  pub head : Bool

-- what a front is, whatever the addresses of its slices
abbrev pub front_content : Front → FrontContent
front_content front = record { gutters = front.gutters.now; fresh = front.fresh; marks = front.marks.now; number = front.number; head = front.head }

-- a front that may be there; else nothing stands in front
abbrev pub front_or_none : Option Front → FrontContent
front_or_none (Some front) = front_content front
front_or_none None = record { gutters = []; fresh = 0; marks = []; number = 0; head = false }

-- the front of this number
abbrev pub front_at : List Front → ℕ → FrontContent
front_at fronts row = front_or_none (slice_get fronts row)

-- what stands in front of a row
abbrev pub front_of : RowContent → FrontContent
front_of row = record { gutters = row.gutters; fresh = row.fresh; marks = row.marks; number = row.number; head = row.head }

-- the line of a row, without what stands in front
abbrev pub line_of : RowContent → FmtLine
line_of row = row.line

-- a line behind a front
abbrev pub row_behind : FrontContent → FmtLine → RowContent
row_behind front line = record { gutters = front.gutters; fresh = front.fresh; marks = front.marks; number = front.number; head = front.head; line = line }
