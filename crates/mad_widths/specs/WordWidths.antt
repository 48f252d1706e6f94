-- The widths of a table's columns with regard to the words of their cells.
-- Widths are in columns of the terminal.
use Rattle.std.specs.Prelude.{◌≡◌, ℕ, ◌+◌, ◌-◌, ◌^◌, ◌<◌, ◌≤◌, min, max, nat_le, if◌then◌else◌, All, List, [], ◌∷◌, length, map, sum, slice_index}
use Rattle.std.specs.List.{AllZip}
use Rattle.mad_widths.specs.Turns.{grants}
use Rattle.mad_widths.specs.ColumnWidths.{Needs, needs_of, natural_widths, narrowed, second_requests, column_widths, is_reduced, AreShared}
use Rattle.mad_widths.specs.declared.tbl_fit.TblFitResult.{TblFitResult}

-- each of the first widths with the one at its place among the second; one with none at its place stays
abbrev pub each_with : (ℕ → ℕ → ℕ) → List ℕ → List ℕ → List ℕ
each_with f [] vs = []
each_with f (w ∷ ws) [] = w ∷ ws
each_with f (w ∷ ws) (v ∷ vs) = f w v ∷ each_with f ws vs

-- The least widths of columns, from their natural widths and from those of their longest words: a column's longest word, three at
-- least, and no more than its natural width.
abbrev pub least_widths : List ℕ → List ℕ → List ℕ
least_widths naturals words = each_with min naturals words

-- each column at its width or its least width, whichever is more
abbrev pub raised : List ℕ → List ℕ → List ℕ
raised ws least = each_with max ws least

-- widths as they are counted where a column's least width counts as three
abbrev pub counted_from : List ℕ → List ℕ → List ℕ
counted_from ws least = each_with (λ w l. (w - l) + 3) ws least

-- The widths of columns with these needs and these least widths. Where the least widths fit together, each column is raised to its own.
-- The excess is then given up as in the second step, down to the least width where that has three. Else the least widths are of no account.
unfoldable pub word_widths : ℕ → List Needs → List ℕ → List ℕ
word_widths available ns least =
    let ws = raised (column_widths available ns) least in
    let excess = sum ws - available in
    if nat_le (sum least) available then narrowed ws (grants (natural_widths ns) (second_requests excess (counted_from ws least)) excess) else column_widths available ns

-- The widths are the word widths of these needs, and what all such lists are. Where the least widths fit together, no column is narrower
-- than its own.
pub record IsWordFit (available : ℕ) (ns : List Needs) (least : List ℕ) (fitted : TblFitResult) : Type 0 where
  pub widths : fitted.col_widths.items ≡ word_widths available ns least
  pub reduced_is : fitted.reduced ≡ is_reduced available ns
  pub shared : AreShared available (natural_widths ns) fitted.reduced fitted.col_widths.items
  pub whole : sum least ≤ available → AllZip (λ w l. l ≤ w) fitted.col_widths.items least

-- the least widths of columns with cells of these widths, whose longest words have these
abbrev pub least_of : List (List ℕ) → List (List ℕ) → List ℕ
least_of cells words = least_widths (natural_widths (map needs_of cells)) (natural_widths (map needs_of words))

-- Each column has a border, and one more border ends the table; the rest of its width is available.
-- The exact widths are said where each column saw fewer than 2^64 cells, and all else whatever it saw.
pub record IsTableWordFit (width : ℕ) (cells words : List (List ℕ)) (fitted : TblFitResult) : Type 0 where
  pub exact : All (λ c. length c < 2 ^ 64) cells → IsWordFit (width - 1 - length cells) (map needs_of cells) (least_of cells words) fitted
  pub shared : AreShared (width - 1 - length cells) (natural_widths (map needs_of cells)) fitted.reduced fitted.col_widths.items
  pub whole : sum (least_of cells words) ≤ width - 1 - length cells → AllZip (λ w l. l ≤ w) fitted.col_widths.items (least_of cells words)
  pub count : length fitted.col_widths.items ≡ length cells
  pub least : All (λ w. 3 ≤ w) fitted.col_widths.items
  pub within : sum fitted.col_widths.items + length cells + 1 ≤ width

-- Columns have these widths, each at least its least width, which is three at least.
pub record AreRaised (ws least : List ℕ) : Type 0 where
  pub count : length least ≡ length ws
  pub three : (k : ℕ) → k < length ws → 3 ≤ slice_index least k
  pub over_least : (k : ℕ) → k < length ws → slice_index least k ≤ slice_index ws k

-- Such widths after what they are more than available together is given up: no column is narrower than its least width, or wider than it was.
pub record AreGivenUp (available : ℕ) (naturals ws least after : List ℕ) : Type 0 where
  pub is : after ≡ narrowed ws (grants naturals (second_requests (sum ws - available) (counted_from ws least)) (sum ws - available))
  pub count : length after ≡ length ws
  pub sum_is : sum after ≡ min (sum ws) available
  pub over_least : (k : ℕ) → k < length ws → slice_index least k ≤ slice_index after k
  pub narrower : (k : ℕ) → k < length ws → slice_index after k ≤ slice_index ws k
