use Rattle.mad_blocks.proofs.TableWidths.{RowsSeen}
use Rattle.mad_blocks.proofs.table_columns.see_rows.Given as goal

abbrev pub invariant-loop-line : goal.invariant-loop-line
invariant-loop-line l = RowsSeen l.by_word l.fn.fit l.fit l.table l.line-index
