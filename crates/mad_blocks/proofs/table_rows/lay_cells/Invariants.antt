use Rattle.std.specs.Vec.Iter.{into_iter_items}
use Rattle.mad_blocks.proofs.TableLemmas.{CellsSoFar}
use Rattle.mad_blocks.proofs.table_rows.lay_cells.Given as goal

abbrev pub invariant-loop-column : goal.invariant-loop-column
invariant-loop-column g l = CellsSoFar (g.S.LineSkin.rules l.skin) l.columns l.fn.cells.items l.column-index (into_iter_items l.rest) l.parts.items l.height
