use Rattle.std.proofs.Common.{◌≡◌, map}
use Rattle.mad_tables.proofs.CutLemmas.{AreCutOff}
use Rattle.mad_tables.proofs.cells.rows_of.Given as goal

-- the rows so far, and the cells that are left
abbrev pub invariant-loop-row : goal.invariant-loop-row
invariant-loop-row l = (l.row-iterator.size ≡ l.fn.columns)
    × AreCutOff l.fn.columns (map (λ cell. cell.now) l.fn.cells) (map (λ row. map (λ cell. cell.now) row.items) l.rows.items) (map (λ cell. cell.now) l.row-iterator.rest.now)
