-- What the widths of a table's columns are, from the cells that it has seen and its own width.
use Rattle.std.specs.Prelude.{◌≡◌, ℕ, ◌+◌, ◌-◌, ◌^◌, ◌<◌, ◌≤◌, List, length, map, sum, All}
use Rattle.mad_widths.specs.ColumnWidths.{Needs, needs_of, natural_widths, column_widths, is_reduced, AreShared, AreEven}
use Rattle.mad_widths.specs.declared.tbl_fit.TblFitResult.{TblFitResult}

-- the widths are the column widths of these needs, and what all such lists are
pub record IsFit (available : ℕ) (ns : List Needs) (fitted : TblFitResult) : Type 0 where
  pub widths : fitted.col_widths.items ≡ column_widths available ns
  pub reduced_is : fitted.reduced ≡ is_reduced available ns
  pub shared : AreShared available (natural_widths ns) fitted.reduced fitted.col_widths.items
  pub even : AreEven ns fitted.col_widths.items

-- Each column has a border, and one more border ends the table; the rest of its width is available.
-- The exact widths are said where each column saw fewer than 2^64 cells, and all else whatever it saw.
pub record IsTableFit (width : ℕ) (cells : List (List ℕ)) (fitted : TblFitResult) : Type 0 where
  pub exact : All (λ c. length c < 2 ^ 64) cells → IsFit (width - 1 - length cells) (map needs_of cells) fitted
  pub shared : AreShared (width - 1 - length cells) (natural_widths (map needs_of cells)) fitted.reduced fitted.col_widths.items
  pub count : length fitted.col_widths.items ≡ length cells
  pub least : All (λ w. 3 ≤ w) fitted.col_widths.items
  pub within : sum fitted.col_widths.items + length cells + 1 ≤ width
