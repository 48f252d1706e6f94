-- Rows without the blanks at their ends.
use Rattle.std.specs.Prelude.{◌≡◌, ◌≢◌, ℕ, ◌==◌, ◌||◌, Bool, true, if◌then◌else◌, List, [], ◌∷◌, ◌++◌}
use Rattle.std.specs.List.{list_all}

-- a blank, or a newline
abbrev pub is_end : ℕ → Bool
is_end b = (b == 32) || (b == 10)

-- a byte in front of what is left of a row: where nothing is left, a blank or a newline goes too
abbrev pub in_front : ℕ → List ℕ → List ℕ
in_front b [] = if is_end b then [] else b ∷ []
in_front b (c ∷ cs) = b ∷ c ∷ cs

-- a row in bytes without the blanks and newlines at its end
abbrev pub without_end : List ℕ → List ℕ
without_end [] = []
without_end (b ∷ bs) = in_front b (without_end bs)

-- a row without the blanks at its end, and a newline
abbrev pub ended : List ℕ → List ℕ
ended row = without_end row ++ 10 ∷ []

-- what a row loses so: blanks and newlines at its end alone, and all of these
pub record EndsLost (row : List ℕ) : Type 0 where
  pub lost : List ℕ
  pub row_is : row ≡ without_end row ++ lost
  pub are_ends : list_all is_end lost ≡ true
  pub last : (front : List ℕ) (b : ℕ) → without_end row ≡ front ++ b ∷ [] → b ≢ 32

-- so it is with each row
abbrev pub RowsEnd : Type 0
RowsEnd = (row : List ℕ) → EndsLost row
