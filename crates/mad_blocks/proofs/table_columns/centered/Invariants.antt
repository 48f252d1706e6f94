use Rattle.std.proofs.Common.{◌≡◌, ◌++◌, drop}
use Rattle.mad_blocks.specs.Tables.{centered}
use Rattle.mad_blocks.proofs.table_columns.centered.Given as goal

abbrev pub invariant-loop-width : goal.invariant-loop-width
invariant-loop-width l = l.columns.items ++ centered (drop l.width-index l.widths) ≡ centered l.widths
