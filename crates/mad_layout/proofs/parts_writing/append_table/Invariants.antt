use Rattle.std.proofs.Common.{◌≡◌, [], length, string_bytes}
use Rattle.mad_blocks.specs.TableCursors.{table_left}
use Rattle.mad_layout.proofs.TakenParts.{TableRowsSoFar}
use Rattle.mad_layout.proofs.parts_writing.append_table.Given as goal

abbrev pub invariant-loop-table : goal.invariant-loop-table
invariant-loop-table l = record {
  so_far : TableRowsSoFar l.skin l.width l.fn.table (string_bytes l.fn.rows) l.table (string_bytes l.rows);
  none : l.lines.items ≡ [];
}

abbrev pub decreases-loop-table : goal.decreases-loop-table
decreases-loop-table l = length (table_left l.table)
