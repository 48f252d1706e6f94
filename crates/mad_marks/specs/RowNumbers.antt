-- Numbers beside rows: for each composite of a row, how many counted characters of the text stand before it.
use Rattle.std.specs.Prelude.{◌≡◌, ℕ, ◌+◌, ◌⊎◌, Bool, List, [], ◌∷◌, ◌++◌, length, map, take, drop}
use Rattle.std.specs.List.{AllByRecursion, concat, flat_map}
use Rattle.mad_md.specs.Flagged.{Flags, flagged_text}
use Rattle.mad_style.specs.declared.kinds.CompositeKind.{CompositeKind}
use Rattle.mad_format.specs.declared.composite.FmtComposite.{FmtComposite}
use Rattle.mad_format.specs.declared.line.FmtLine.{FmtLine}
use Rattle.mad_format.specs.declared.line.FmtLine.TheVariants.{Normal, TableRow}
use Rattle.mad_mark_runs.specs.declared.mark_runs.MarkRun.{MarkRun}
use Rattle.mad_marks.specs.LineMarks.{text_of, texts_marked}
use Rattle.mad_marks.specs.RowMarks.{counted, counted_marked, marked}
use Rattle.mad_marks.specs.declared.numbers.RowNumbers.{RowNumbers}

-- ---- a line

-- the composites of a line: its cells in a table, none of a rule
abbrev pub cells_of : FmtLine → List FmtComposite
cells_of (Normal l) = l ∷ []
cells_of (TableRow row) = row.cells.items
cells_of line = []

-- how many counted characters a composite has
abbrev pub count_in : (CompositeKind → Flags → Bool) → FmtComposite → ℕ
count_in has c = counted (has c.kind) (flagged_text c.compounds.items)

-- the numbers with which the composites of a line of the text begin, the first with this one
abbrev pub firsts_of : (CompositeKind → Flags → Bool) → ℕ → List FmtComposite → List ℕ
firsts_of has n [] = []
firsts_of has n (c ∷ cs) = n ∷ firsts_of has (n + count_in has c) cs

-- and the one after all of them
abbrev pub number_after : (CompositeKind → Flags → Bool) → ℕ → List FmtComposite → ℕ
number_after has n [] = n
number_after has n (c ∷ cs) = number_after has (n + count_in has c) cs

-- ---- its rows

-- the numbers of the composites of a row, where its columns have come to these; a composite without a column has nothing to count, and 0
abbrev pub row_numbers : List ℕ → List FmtComposite → List ℕ
row_numbers ns [] = []
row_numbers [] (x ∷ xs) = 0 ∷ row_numbers [] xs
row_numbers (n ∷ ns) (x ∷ xs) = n ∷ row_numbers ns xs

-- to which the columns have come after the row
abbrev pub passed : (CompositeKind → Flags → Bool) → List ℕ → List FmtComposite → List ℕ
passed has [] xs = []
passed has (n ∷ ns) [] = n ∷ ns
passed has (n ∷ ns) (x ∷ xs) = (n + count_in has x) ∷ passed has ns xs

-- the numbers of all rows of a line, one below the other
abbrev pub rows_numbers : (CompositeKind → Flags → Bool) → List ℕ → List (List FmtComposite) → List (List ℕ)
rows_numbers has ns [] = []
rows_numbers has ns (row ∷ rows) = row_numbers ns row ∷ rows_numbers has (passed has ns row) rows

-- ---- what is right of numbers

-- a column: the first composite of each row
abbrev pub column : List (List FmtComposite) → List FmtComposite
column rows = flat_map (take 1) rows

-- what is right of it
abbrev pub right_of : List (List FmtComposite) → List (List FmtComposite)
right_of rows = map (drop 1) rows

-- The marked characters of a column, from where it begins, are those that the cell says; or the column isn't shown.
abbrev pub IsColumnMarked : (CompositeKind → Flags → Bool) → List MarkRun → ℕ → FmtComposite → List (List FmtComposite) → Type 0
IsColumnMarked has runs n c rows =
    (texts_marked has runs n (map text_of (column rows)) ≡ counted_marked (has c.kind) (marked (has c.kind) runs n (flagged_text c.compounds.items))) ⊎ (column rows ≡ [])

-- nothing is counted in rows
abbrev pub NothingCounted : (CompositeKind → Flags → Bool) → List (List FmtComposite) → Type 0
NothingCounted has rows = AllByRecursion (λ row. AllByRecursion (λ x. count_in has x ≡ 0) row) rows

-- THE RELATION: rows have the marks that a line of the text says, whose composites begin with these numbers: each column has those of its cell
abbrev pub AreMarked : (CompositeKind → Flags → Bool) → List MarkRun → ℕ → List FmtComposite → List (List FmtComposite) → Type 0
AreMarked has runs n [] rows = NothingCounted has rows
AreMarked has runs n (c ∷ cs) rows = IsColumnMarked has runs n c rows × AreMarked has runs (n + count_in has c) cs (right_of rows)

-- ---- all lines

-- The rows of lines of the text, in order, and their numbers, where the first of these lines begins with this one. Each line's rows have the
-- marks that it says.
abbrev pub AreNumbered : (CompositeKind → Flags → Bool) → List MarkRun → ℕ → List FmtLine → List FmtLine → List (List ℕ) → Type 0
AreNumbered has runs n [] rows numbers = (rows ≡ []) × (numbers ≡ [])
AreNumbered has runs n (l ∷ ls) rows numbers =
    (own : List FmtLine) × (others : List FmtLine) × (after : List (List ℕ)) × (rows ≡ own ++ others)
    × (numbers ≡ rows_numbers has (firsts_of has n (cells_of l)) (map cells_of own) ++ after)
    × AreMarked has runs n (cells_of l) (map cells_of own) × AreNumbered has runs (number_after has n (cells_of l)) ls others after

-- ---- numbers, one after the other

-- where those of each row begin
abbrev pub starts_from : ℕ → List (List ℕ) → List ℕ
starts_from at [] = []
starts_from at (ns ∷ rows) = at ∷ starts_from (at + length ns) rows

-- these are the numbers of rows
pub record Holds (numbers : RowNumbers) (rows : List (List ℕ)) : Type 0 where
  pub all : numbers.numbers.items ≡ concat rows
  pub starts : numbers.starts.items ≡ starts_from 0 rows
