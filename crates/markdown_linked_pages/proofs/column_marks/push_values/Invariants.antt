use Rattle.std.proofs.Common.{◌≡◌, ◌+◌, ◌++◌}
use Rattle.mad_marked_rows.specs.MarkedTexts.{SameFrom}
use Rattle.markdown_linked_pages.specs.CellMarks.{values_at}
use Rattle.markdown_linked_pages.proofs.column_marks.push_values.Given as goal

abbrev pub invariant-loop-left : goal.invariant-loop-left
invariant-loop-left l = record {
  values : l.values.items ++ values_at l.fn.cursor.runs.now l.cursor.number l.left ≡ l.fn.values.items ++ values_at l.fn.cursor.runs.now l.fn.cursor.number l.count;
  number : l.cursor.number + l.left ≡ l.fn.cursor.number + l.count;
  same : SameFrom l.fn.cursor.runs.now l.cursor.runs.now l.cursor.number;
}

abbrev pub decreases-loop-left : goal.decreases-loop-left
decreases-loop-left l = l.left
