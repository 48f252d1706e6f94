use Rattle.mad_blocks.proofs.TableLemmas.{RowsSoFar}
use Rattle.mad_blocks.proofs.table_rows.lay_row_in.Given as goal

abbrev pub invariant-loop-done : goal.invariant-loop-done
invariant-loop-done g l = RowsSoFar l.columns l.initial.cells.items l.cells.items l.rows.items l._done
