use Rattle.std.proofs.Common.{◌≡◌, ◌++◌, drop, length}
use Rattle.markdown_linked_pages.specs.CellMarks.{first_values, single_runs}
use Rattle.markdown_linked_pages.proofs.cell_marks.take_values.Given as goal

abbrev pub invariant-loop-wanted : goal.invariant-loop-wanted
invariant-loop-wanted l = record {
  marks : l.marks.items ++ single_runs (length l.marks.items) (first_values l.wanted l.left) ≡ l.fn.marks.items ++ single_runs (length l.fn.marks.items) (first_values l.count l.values);
  left : drop l.wanted l.left ≡ drop l.count l.values;
}

abbrev pub decreases-loop-wanted : goal.decreases-loop-wanted
decreases-loop-wanted l = l.wanted
