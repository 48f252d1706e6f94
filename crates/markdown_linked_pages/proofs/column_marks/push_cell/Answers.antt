use Rattle.std.proofs.Common.{◌∙◌}
use Rattle.mad_md.specs.Lines.{styled_runs}
use Rattle.markdown_linked_pages.specs.CellMarks.{counted_said, values_at}
use Rattle.markdown_linked_pages.proofs.ColumnLemmas.{put_below}
use Rattle.markdown_linked_pages.proofs.column_marks.push_cell.Goals as goal

pub returns-then-column-len-clause-columns : goal.returns-then-column-len-clause-columns
returns-then-column-len-clause-columns c =
    put_below c.push_values.result c.args.columns.now.items c.args.column c.len.result c.index_mut.result.now c.push_values.new.values (values_at c.args.cursor.now.runs.now c.args.cursor.now.number (counted_said (styled_runs c.args.cell.now)))
    c.if-column-len.true (c.len.ensures ∙ c.args.columns.now.ok.0) c.index_mut.ensures.value (rw c.in_ok-count.ensures at c.push_values.ensures.values)
