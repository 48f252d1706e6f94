-- Which row stays on top where the width changes.
use Rattle.std.specs.Prelude.{ℕ, ◌+◌, ◌-◌, nat_le, min, max, List, length, count_by, slice_index}

-- the index of the section that has a row, by the rows in which sections begin; past the last one that of the last
abbrev pub part_of : List ℕ → ℕ → ℕ
part_of starts row = min (count_by (λ start. nat_le start row) starts) (length starts - 1) - 1

-- the row of the new layout for one of the old: as far below the start of its section, and no further than that section's last row
abbrev pub row_in_parts : List ℕ → List ℕ → ℕ → ℕ
row_in_parts old new row =
    let part = part_of old row in
    min (slice_index new part + (row - slice_index old part)) (max (slice_index new (part + 1) - 1) (slice_index new part))
