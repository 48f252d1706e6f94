use Rattle.std.proofs.Common.{◌≡◌, ◌++◌, drop}
use Rattle.mad_blocks.specs.Tables.{columns_with}
use Rattle.mad_blocks.proofs.table_columns.columns_with.Given as goal

abbrev pub invariant-loop-i : goal.invariant-loop-i
invariant-loop-i l = l.columns.items ++ columns_with (drop l.i l.widths) (drop l.i l.aligns) ≡ columns_with l.widths l.aligns
