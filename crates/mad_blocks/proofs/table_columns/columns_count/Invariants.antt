use Rattle.std.proofs.Common.{◌≡◌, max, drop}
use Rattle.mad_blocks.specs.Tables.{columns_count}
use Rattle.mad_blocks.proofs.table_columns.columns_count.Given as goal

abbrev pub invariant-loop-line : goal.invariant-loop-line
invariant-loop-line l = max l.count (columns_count (drop l.line-index l.table)) ≡ columns_count l.table
