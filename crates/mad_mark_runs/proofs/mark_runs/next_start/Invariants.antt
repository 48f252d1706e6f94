use Rattle.std.proofs.Common.{◌≡◌, length}
use Rattle.mad_mark_runs.specs.Marks.{next_start}
use Rattle.mad_mark_runs.proofs.mark_runs.next_start.Given as goal

abbrev pub invariant-loop-rest : goal.invariant-loop-rest
invariant-loop-rest l = next_start l.rest l.fn.number ≡ next_start l.fn.runs l.fn.number

abbrev pub decreases-loop-rest : goal.decreases-loop-rest
decreases-loop-rest l = length l.rest
