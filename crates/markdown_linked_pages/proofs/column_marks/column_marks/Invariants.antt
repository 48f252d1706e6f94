use Rattle.std.proofs.Common.{◌≡◌, drop, map}
use Rattle.mad_md.specs.Lines.{content_of}
use Rattle.mad_marked_rows.specs.MarkedTexts.{SameFrom}
use Rattle.markdown_linked_pages.specs.CellMarks.{columns_values, on_top}
use Rattle.markdown_linked_pages.specs.ColumnsKept.{column_values}
use Rattle.markdown_linked_pages.proofs.column_marks.column_marks.Given as goal

abbrev pub invariant-loop-line : goal.invariant-loop-line
invariant-loop-line l = record {
  so_far : on_top (map column_values l.columns.items) (columns_values l.section.marks.now l.cursor.number (drop l.line-index (map content_of l.section.text.lines.items))) ≡ columns_values l.section.marks.now 0 (map content_of l.section.text.lines.items);
  same : SameFrom l.section.marks.now l.cursor.runs.now l.cursor.number;
}
