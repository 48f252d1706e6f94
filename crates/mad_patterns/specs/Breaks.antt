-- Rows that come of one line of the text.
use Rattle.std.specs.Prelude.{ℕ, ◌+◌, nat_le, nat_lt, Bool, false, not, List, find, reverse, slice_get, slice_range, Option, Some, None, if◌then◌else◌}
use Rattle.mad_blocks.specs.LayoutParts.{is_code_kind}
use Rattle.mad_format.specs.declared.line.FmtLine.{FmtLine}
use Rattle.mad_format.specs.declared.line.FmtLine.TheVariants.{Normal}

-- there is such a line, and it is one of text that isn't code
abbrev pub is_text_row : Option FmtLine → Bool
is_text_row (Some (Normal l)) = not (is_code_kind l.kind)
is_text_row line = false

-- the row that was found, or else that one
abbrev pub row_or : ℕ → Option ℕ → ℕ
row_or row None = row
row_or row (Some start) = start

-- of these rows, in which parts of the text begin, the first below this one; where none is, the next row
abbrev pub part_end : List ℕ → ℕ → ℕ
part_end starts row = row_or (row + 1) (find (nat_lt row) starts)

-- of these rows the last one that isn't below this one; where none is, this row
abbrev pub part_start : List ℕ → ℕ → ℕ
part_start starts row = row_or row (find (λ start. nat_le start row) (reverse starts))

-- the row in which the line begins that a row is of; of code, of tables and of rules each row is a line
abbrev pub line_start : List FmtLine → List ℕ → ℕ → ℕ
line_start lines starts row = if is_text_row (slice_get lines row) then part_start starts row else row

-- the row behind its last one
abbrev pub line_end : List FmtLine → List ℕ → ℕ → ℕ
line_end lines starts row = if is_text_row (slice_get lines row) then part_end starts row else row + 1

-- the rows of that line
abbrev pub line_rows : List FmtLine → List ℕ → ℕ → List FmtLine
line_rows lines starts row = slice_range lines (line_start lines starts row) (line_end lines starts row)
