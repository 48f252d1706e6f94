use Rattle.mad_blocks.proofs.TableWidths.{CellsSeen}
use Rattle.mad_blocks.proofs.table_columns.see_row.Given as goal

abbrev pub invariant-loop-column : goal.invariant-loop-column
invariant-loop-column l = CellsSeen l.by_word l.fn.fit l.fit l.cells l.column
