-- What remains of a line, and its blanks as columns.
use Rattle.std.specs.Prelude.{ℕ, zero, suc, ◌+◌, ◌-◌, ◌%◌, ◌==◌, nat_lt, List, [], ◌∷◌, drop, Option, Some, None, if◌then◌else◌}
use Rattle.markdown_marks.specs.declared.rest.Rest.{Rest}

-- What remains of a line. The column is counted up to multiples of four, which is all that a tab asks. Blank columns of a tab
-- that was taken in part are pending, and come before the bytes.
pub record Remaining : Type 0 where
  pub column : ℕ
  pub pending : ℕ
  pub bytes : List ℕ

-- what the code's rest says
abbrev pub remaining : Rest → Remaining
remaining rest = record { column = rest.column; pending = rest.pending; bytes = rest.bytes.now }

-- a line before anything is taken
abbrev pub whole : List ℕ → Remaining
whole bytes = record { column = 0; pending = 0; bytes = bytes }

-- so many columns further on, up to multiples of four
abbrev pub further : ℕ → ℕ → ℕ
further columns column = column % 4 + columns

-- the rest without one blank column, with these pending and these bytes
abbrev pub one_taken : ℕ → ℕ → List ℕ → Option Remaining
one_taken column pending bytes = Some (record { column = further 1 column; pending = pending; bytes = bytes })

-- A space is one column, and a tab goes to the next column that is a multiple of four.
abbrev pub blank_taken : ℕ → List ℕ → Option Remaining
blank_taken column [] = None
blank_taken column (b ∷ bs) = if b == 32 then one_taken column 0 bs else if b == 9 then one_taken column (3 - column % 4) bs else None

-- the rest without one blank column in front, if there is one
unfoldable pub one_column : Remaining → Option Remaining
one_column rest = if nat_lt 0 rest.pending then one_taken rest.column (rest.pending - 1) rest.bytes else blank_taken rest.column rest.bytes

-- what comes of an optional rest
abbrev pub with_rest : {A : Type 0} → Option Remaining → A → (Remaining → A) → A
with_rest None otherwise on = otherwise
with_rest (Some rest) otherwise on = on rest

-- the rest without the blank columns in front, at most so many
unfoldable pub take_columns : ℕ → Remaining → Remaining
take_columns zero rest = rest
take_columns (suc n) rest = with_rest (one_column rest) rest (take_columns n)

-- how many blank columns are in front, at most so many
unfoldable pub columns_in_front : ℕ → Remaining → ℕ
columns_in_front zero rest = 0
columns_in_front (suc n) rest = with_rest (one_column rest) 0 (λ next. 1 + columns_in_front n next)

-- the rest without so many bytes, each of one column
unfoldable pub skip : ℕ → Remaining → Remaining
skip count rest = record { column = further count rest.column; pending = 0; bytes = drop count rest.bytes }
