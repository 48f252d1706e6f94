-- The columns that a text takes.
use Rattle.std.specs.Prelude.{ℕ, ◌+◌, List, [], ◌∷◌}
use Rattle.mad_characters.specs.Columns.{char_columns}
use Rattle.mad_md.specs.Flagged.{FlaggedChar}

-- the columns that characters take
abbrev pub columns : List ℕ → ℕ
columns [] = 0
columns (c ∷ cs) = char_columns c + columns cs

-- the columns that a flagged text takes
abbrev pub width_of : List FlaggedChar → ℕ
width_of [] = 0
width_of (x ∷ xs) = char_columns x.char + width_of xs
