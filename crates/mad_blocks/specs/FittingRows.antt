-- Rows of a table whose cells all fit their columns.
use Rattle.std.specs.Prelude.{◌≡◌, ℕ, ◌<◌, ◌≤◌, List, length, get_or}
use Rattle.mad_measure.specs.declared.spacing.Spacing.{Spacing}
use Rattle.mad_format.specs.declared.composite.FmtComposite.{FmtComposite}
use Rattle.mad_blocks.specs.Tables.{in_column}

-- a cell for each column, and each is as wide as its column at most
pub record AllFit (columns : List Spacing) (cells : List FmtComposite) : Type 0 where
  pub count : length cells ≡ length columns
  pub fit : (k : ℕ) (c : Spacing) (x : FmtComposite) → k < length columns → (get_or cells k x).visible_length ≤ (get_or columns k c).width

-- each cell at its place in its column
pub record ArePlaced (columns : List Spacing) (cells placed : List FmtComposite) : Type 0 where
  pub count : length placed ≡ length cells
  pub are : (k : ℕ) (c : Spacing) (x : FmtComposite) → k < length columns → get_or placed k x ≡ in_column (get_or columns k c) (get_or cells k x)
