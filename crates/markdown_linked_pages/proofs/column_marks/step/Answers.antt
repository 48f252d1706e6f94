use Rattle.std.proofs.Common.{List, ap, ◌∙◌, arith}
use Rattle.mad_mark_runs.specs.Marks.{value_at}
use Rattle.mad_mark_runs.specs.declared.mark_runs.MarkRun.{MarkRun}
use Rattle.mad_marked_rows.proofs.CursorLemmas.{from_start}
use Rattle.markdown_linked_pages.proofs.column_marks.step.Goals as goal

pub returns-clause-same : goal.returns-clause-same
returns-clause-same c = λ k le.
    ap (λ (r : List MarkRun). value_at r k) c.next_start-cursor.ensures ∙ from_start c.args.cursor.now.runs.now c.args.cursor.now.number k (omega (arith, le, c.in_ok-number.ensures))
