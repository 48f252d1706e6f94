use Rattle.std.proofs.Common.{◌∙◌, ap, arith}
use Rattle.mad_mark_runs.specs.Marks.{value_at}
use Rattle.mad_marked_rows.proofs.CursorLemmas.{from_start}
use Rattle.mad_marked_rows.proofs.cursors.MarkCursor.next.Goals as goal

pub returns-clause-same : goal.returns-clause-same
returns-clause-same c = λ k h. ap (λ r. value_at r k) c.next_start-self.ensures ∙ from_start c.args.self.now.runs.now c.args.self.now.number k (omega (arith, c.in-Some.ensures, h))
