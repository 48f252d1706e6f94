-- Where a field is scrolled to, by numbers.
use Rattle.std.specs.Prelude.{ℕ, ◌+◌, ◌-◌, ◌&&◌, Bool, min, nat_lt, nat_le, if◌then◌else◌}
use Rattle.mad_measure.specs.declared.area.Area.{Area}

-- ---- down

-- The first of `rows` lines that shows line y of `count`. If the one from `first` on doesn't show it, the line comes first or last. One
-- more is shown beyond it, where there is one and where there are rows for it.
abbrev pub line_in_view : ℕ → ℕ → ℕ → ℕ → ℕ
line_in_view rows count y first =
    if nat_lt y first then (if nat_lt 4 rows then y - 1 else y)
    else if nat_le (first + rows) y then (if nat_lt (y + 1) count && nat_le 2 rows then y + 2 - rows else y + 1 - rows)
    else first

-- how many lines are hidden above: none where all fit, and no more than has to be
abbrev pub lines_hidden : Bool → ℕ → ℕ → ℕ → ℕ → ℕ
lines_hidden focused rows count y old =
    if nat_le count rows then 0
    else if focused then line_in_view rows count y (min old (count - rows))
    else min old (count - rows)

-- ---- to the right

-- the columns of a field's text: one fewer beside a scroll bar, which is there where not all lines fit
abbrev pub text_width : Area → ℕ → ℕ
text_width area count = if nat_lt area.height count then area.width - 1 else area.width

-- In a place of less than four columns the scroll counts characters: the one before character x is in view.
abbrev pub char_in_view : ℕ → ℕ → ℕ → ℕ
char_in_view width x old = if nat_lt x 2 then 0 else if nat_le x old then x - 1 else if nat_lt (old + width) x then x + 1 - width else old

-- in a wider one two columns on each side of the cursor's column are
abbrev pub column_in_view : ℕ → ℕ → ℕ → ℕ
column_in_view width column old =
    if nat_lt column (old + 2) then column - 2 else if nat_lt (old + width) (column + 2) then column + 2 - width else old

-- How many columns are hidden on the left of a line of `whole` columns, where the cursor is before character x, in `column`. None are
-- where the line and the cursor fit, and no more than has to be.
abbrev pub columns_hidden : Bool → ℕ → ℕ → ℕ → ℕ → ℕ → ℕ
columns_hidden focused width whole x column old =
    if nat_lt whole width then 0
    else min (if focused then (if nat_lt width 4 then char_in_view width x old else column_in_view width column old) else old) (whole + 1 - width)
