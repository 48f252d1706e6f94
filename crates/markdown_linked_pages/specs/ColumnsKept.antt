-- Columns of marks, as the code keeps them.
use Rattle.std.specs.Prelude.{ℕ, nat_lt, List, [], ◌∷◌, ◌++◌, length, slice_index_or, set, if◌then◌else◌}
use Rattle.std.specs.Borrow.{Bor}
use Rattle.std.specs.Global.{Vec}

-- the marks of a column
abbrev pub column_values : Vec ℕ → List ℕ
column_values column = column.items

-- those of it that are left
abbrev pub values_left : Bor (List ℕ) → List ℕ
values_left left = left.now

-- columns with these marks below those of the one of this number, or as a new one behind the last
abbrev pub with_cell : ℕ → List ℕ → List (List ℕ) → List (List ℕ)
with_cell column values columns = if nat_lt column (length columns) then set columns column (slice_index_or columns column [] ++ values) else columns ++ values ∷ []
