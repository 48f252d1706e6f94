-- The cells that a table has seen, column by column.
use Rattle.std.specs.Prelude.{◌≡◌, ℕ, ◌^◌, ◌<◌, List, [], ◌∷◌, ◌++◌, length, sum, All, slice_index_or, slice_set, max}
use Rattle.std.specs.List.{AllZip}
use Rattle.mad_widths.specs.declared.sharing.SeenColumn.{SeenColumn}
use Rattle.mad_widths.specs.declared.tbl_fit.TblFit.{TblFit}
use Rattle.mad_widths.specs.ColumnWidths.{Needs, widest, average_width}

-- what a column's cells need, from what is kept of them
abbrev pub needs_in : SeenColumn → Needs
needs_in c = record { natural = max c.widest 3; average = average_width c.total c.count }

-- the cells seen in the column have these widths; their count and their sum are right as long as the count fits 64 bits
pub record ColumnHasSeen (c : SeenColumn) (cells : List ℕ) : Type 0 where
  pub widths : All (λ w. w < 2 ^ 64) cells
  pub widest_is : c.widest ≡ widest cells
  pub counted : length cells < 2 ^ 64 → (c.count ≡ length cells) × (c.total ≡ sum cells)

-- the table has this width, and the cells seen in its columns have these widths
pub record TableHasSeen (fit : TblFit) (width : ℕ) (cells : List (List ℕ)) : Type 0 where
  pub width_is : fit.width ≡ width
  pub columns : AllZip ColumnHasSeen fit.columns.items cells

-- the cells after one more in that column; as they were if there is no such column
abbrev pub cell_added : List (List ℕ) → ℕ → ℕ → List (List ℕ)
cell_added cells column width = slice_set cells column (slice_index_or cells column [] ++ width ∷ [])
