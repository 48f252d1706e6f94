-- The columns of a line in an editor.
use Rattle.std.specs.Prelude.{ℕ, ◌-◌, ◌^◌, ◌<◌, ◌≤◌, ◌==◌, List, length, take, sum_by, min, if◌then◌else◌}
use Rattle.mad_characters.specs.Columns.{char_columns}

-- a tab has two columns
abbrev pub char_width : ℕ → ℕ
char_width c = if c == 9 then 2 else char_columns c

-- the columns of characters, as far as a `usize` counts
abbrev pub columns : List ℕ → ℕ
columns cs = min (sum_by char_width cs) (2 ^ 64 - 1)

-- the first character that starts at the column or after it, else the line's end
pub record IsIndexAtColumn (l : List ℕ) (column index : ℕ) : Type 0 where
  pub within : index ≤ length l
  pub before : (k : ℕ) → k < index → columns (take k l) < column
  pub reached : index < length l → column ≤ columns (take index l)
