use Rattle.std.proofs.Common.{map}
use Rattle.std.specs.Vec.Iter.{into_iter_items}
use Rattle.mad_md.specs.Lines.{styled_runs}
use Rattle.mad_format.proofs.ReadLemmas.{CellsSoFar}
use Rattle.mad_format.proofs.table.FmtTableRow.from.Given as goal

abbrev pub invariant-loop-cell : goal.invariant-loop-cell
invariant-loop-cell g l = CellsSoFar (g.S.LineSkin.rules l.skin) (map styled_runs l.fn.row.cells.items) (map styled_runs (into_iter_items l.cell-iterator)) l.cells.items
