use Rattle.mad_patterns.proofs.BreakLemmas.{in_order}
use Rattle.mad_patterns.proofs.breaks.Starts.looked_over.Goals as goal

pub invariant_of-result : goal.invariant_of-result
invariant_of-result c = record { order = in_order c.args.rows.now c.is_sorted.result c.is_sorted.ensures.cases }
