-- The lines of a row's cells while its rows are built one after the other.
use Rattle.std.specs.Prelude.{◌≡◌, List, [], ◌∷◌, map}
use Rattle.std.specs.Vec.Iter.{into_iter_items}
use Rattle.mad_measure.specs.declared.spacing.Spacing.{Spacing}
use Rattle.mad_format.specs.CompositeWraps.{IsCompositeWrap}
use Rattle.mad_blocks.specs.Tables.{AreCellsLaidOut, IsTop, below}
use Rattle.mad_format.specs.LineRules.{LineRules}
use Rattle.mad_format.specs.declared.composite.FmtComposite.{FmtComposite}
use Rattle.mad_blocks.specs.declared.table_rows.CellLines.{CellLines}

-- the lines of a cell that are on no row yet
abbrev pub lines_to_come : CellLines → List FmtComposite
lines_to_come p = into_iter_items p.lines

-- the columns of cells
abbrev pub columns_left : List CellLines → List Spacing
columns_left parts = map (λ p. p.column) parts

-- the lines to come of each cell
abbrev pub cell_lines_left : List CellLines → List (List FmtComposite)
cell_lines_left parts = map lines_to_come parts

-- the cells are laid out, and nothing is on a row yet
pub record AreCellsLeft (skin : LineRules) (columns : List Spacing) (cells : List FmtComposite) (parts : List CellLines) : Type 0 where
  pub columns_are : columns_left parts ≡ columns
  pub laid_out : AreCellsLaidOut IsCompositeWrap skin columns cells (cell_lines_left parts)

-- the next row is taken off the cells
abbrev pub TakesRow : List CellLines → List FmtComposite → List CellLines → Type 0
TakesRow [] [] [] = Unit {0}
TakesRow (p ∷ ps) (x ∷ xs) (q ∷ qs) = IsTop p.column (lines_to_come p) x × (q.column ≡ p.column) × (lines_to_come q ≡ below (lines_to_come p)) × TakesRow ps xs qs
TakesRow _ _ _ = ⊥
