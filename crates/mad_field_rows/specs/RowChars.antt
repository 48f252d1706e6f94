-- The characters of a line in a row of the screen, from left to right.
use Rattle.std.specs.Prelude.{ℕ, ◌-◌, ◌==◌, ◌&&◌, Bool, true, false, List, [], ◌∷◌, ◌++◌, replicate, sum_by, nat_lt, nat_le, if◌then◌else◌}
use Rattle.mad_edit_lines.specs.LineColumns.{char_width}
use Rattle.mad_field_rows.specs.declared.line_rows.RowChar.{RowChar}

-- the columns of characters in a row
abbrev pub row_columns : List RowChar → ℕ
row_columns cs = sum_by (λ c. char_width c.c) cs

-- `…`
abbrev pub ellipsis : ℕ
ellipsis = 0x2026

-- a space
abbrev pub space : ℕ
space = 32

-- `…` in front of what is shown of a line
abbrev pub first_ellipsis : RowChar
first_ellipsis = record { c = ellipsis; marked = false }

-- ---- from a column on

-- those from the first one on that starts at a column or after it
abbrev pub from_column : List RowChar → ℕ → List RowChar
from_column [] column = []
from_column (c ∷ cs) column = if column == 0 then c ∷ cs else from_column cs (column - char_width c.c)

-- ---- in its row

-- whether a character, with those after it, fits into so many columns: the last one may take the last column, another may not
abbrev pub does_fit : RowChar → List RowChar → ℕ → Bool
does_fit c [] room = nat_le (char_width c.c) room
does_fit c (d ∷ cs) room = nat_lt (char_width c.c) room

-- the characters that fit, and `…` in place of the first that doesn't
abbrev pub fitted : List RowChar → ℕ → List RowChar
fitted [] room = []
fitted (c ∷ cs) room =
    if room == 0 then []
    else if does_fit c cs room then c ∷ fitted cs (room - char_width c.c)
    else record { c = ellipsis; marked = c.marked } ∷ []

-- spaces up to the row's end; where the cursor is at the line's end the first one is marked
abbrev pub spaces_after : Bool → ℕ → List RowChar
spaces_after at_end left =
    if at_end && nat_lt 0 left then record { c = space; marked = true } ∷ replicate (left - 1) (record { c = space; marked = false })
    else replicate left (record { c = space; marked = false })

-- characters in a row of so many columns
abbrev pub filled_row : List RowChar → Bool → ℕ → List RowChar
filled_row cs at_end room = fitted cs room ++ spaces_after at_end (room - row_columns (fitted cs room))
