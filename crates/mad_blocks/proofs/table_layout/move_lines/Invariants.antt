use Rattle.std.proofs.Common.{◌≡◌, ◌++◌, take, drop}
use Rattle.std.specs.Vec.Iter.{into_iter_items}
use Rattle.mad_blocks.proofs.table_layout.move_lines.Given as goal

abbrev pub invariant-loop-done : goal.invariant-loop-done
invariant-loop-done l = record {
  moved : l.lines.items ≡ l.fn.lines.items ++ take l._done (into_iter_items l.fn.rest);
  left : into_iter_items l.rest ≡ drop l._done (into_iter_items l.fn.rest);
}
