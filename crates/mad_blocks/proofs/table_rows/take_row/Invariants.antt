use Rattle.mad_blocks.proofs.TableLemmas.{TakenSoFar}
use Rattle.mad_blocks.proofs.table_rows.take_row.Given as goal

abbrev pub invariant-loop-cell : goal.invariant-loop-cell
invariant-loop-cell l = TakenSoFar l.fn.cells l.cell-items l.cell-index l.row.items
