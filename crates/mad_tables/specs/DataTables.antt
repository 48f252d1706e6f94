-- Tables of data: one text, cut into cells of given lengths.
use Rattle.std.specs.Prelude.{◌≡◌, ◌⊎◌, ℕ, List, [], ◌∷◌, length}
use Rattle.std.specs.List.{AllByRecursion, flat_map}
use Rattle.mad_md.specs.Lines.{LineContent}
use Rattle.mad_md.specs.Tables.{table_of}
use Rattle.mad_md.specs.declared.alignment.Alignment.{Alignment}
use Rattle.mad_tables.specs.Cells.{IsCut, cells_cut}

-- The text, cut into cells of these lengths, is these rows one after the other, each of so many cells.
pub record AreCells (text lengths : List ℕ) (columns : ℕ) (rows : List (List (List ℕ))) : Type 0 where
  pub cut : IsCut text lengths
  pub even : AllByRecursion (λ row. length row ≡ columns) rows
  pub all : flat_map (λ row. row) rows ≡ cells_cut text lengths

-- there are no such rows, or they have no column
abbrev pub AreNoCells : List ℕ → List ℕ → ℕ → Type 0
AreNoCells text lengths columns = (columns ≡ 0) ⊎ ((rows : List (List (List ℕ))) → ¬ (AreCells text lengths columns rows))

-- the lines of the table: the first row has its headers
abbrev pub table_under : List (List (List ℕ)) → List Alignment → List LineContent
table_under [] aligns = table_of [] aligns []
table_under (headers ∷ rows) aligns = table_of headers aligns rows

-- These lines are the table of the cells of a text.
pub record AreTableLines (text lengths : List ℕ) (columns : ℕ) (aligns : List Alignment) (lines : List LineContent) : Type 0 where
  pub rows : List (List (List ℕ))
  pub cells : AreCells text lengths columns rows
  pub lines_are : lines ≡ table_under rows aligns
