-- Which character a column of a line is at.
use Rattle.std.specs.Prelude.{ℕ, ◌+◌, ◌-◌, ◌^◌, ◌==◌, List, [], ◌∷◌, min, if◌then◌else◌}
use Rattle.mad_edit_lines.specs.LineColumns.{char_width}

-- as far as a `usize` counts
abbrev pub capped : ℕ → ℕ
capped n = min n (2 ^ 64 - 1)

-- how many characters of a line are before the first one that starts at a column or after it
abbrev pub index_at : List ℕ → ℕ → ℕ
index_at [] column = 0
index_at (c ∷ cs) column = if column == 0 then 0 else 1 + index_at cs (column - char_width c)
