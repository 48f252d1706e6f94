-- The cells of a table that are handed as one text and the length of each, in bytes.
use Rattle.std.specs.Prelude.{◌≡◌, ℕ, ◌<◌, List, [], ◌∷◌, ◌++◌, length, take, drop, IsCharBoundary}
use Rattle.std.specs.List.{AllByRecursion, flat_map}

-- the text can be cut into cells of these lengths, all of it: each ends between characters
abbrev pub IsCut : List ℕ → List ℕ → Type 0
IsCut text [] = text ≡ []
IsCut text (n ∷ ns) = IsCharBoundary text n × IsCut (drop n text) ns

-- the cells, one after the other
abbrev pub cells_cut : List ℕ → List ℕ → List (List ℕ)
cells_cut text [] = []
cells_cut text (n ∷ ns) = take n text ∷ cells_cut (drop n text) ns

-- The rows have all cells in order, but for those at the end that fill no row; each has so many.
pub record AreRows {T : Type 0} (columns : ℕ) (cells : List T) (rows : List (List T)) : Type 0 where
  pub even : AllByRecursion (λ row. length row ≡ columns) rows
  pub over : List T
  pub too_few : length over < columns
  pub all : cells ≡ flat_map (λ row. row) rows ++ over
