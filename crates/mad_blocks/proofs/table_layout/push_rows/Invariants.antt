use Rattle.std.proofs.Common.{◌≡◌, ◌++◌, map}
use Rattle.std.specs.Vec.Iter.{into_iter_items}
use Rattle.mad_format.specs.declared.line.FmtLine.TheVariants.{TableRow}
use Rattle.mad_blocks.proofs.table_layout.push_rows.Given as goal

abbrev pub invariant-loop-row : goal.invariant-loop-row
invariant-loop-row l = l.lines.items ++ map TableRow (into_iter_items l.row-iterator) ≡ l.fn.lines.items ++ map TableRow l.fn.rows.items
