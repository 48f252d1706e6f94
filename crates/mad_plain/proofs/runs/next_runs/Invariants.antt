use Rattle.std.proofs.Common.{◌≡◌, length}
use Rattle.mad_plain.specs.Runs.{next_runs}
use Rattle.mad_plain.proofs.runs.next_runs.Given as goal

abbrev pub invariant-loop-rest : goal.invariant-loop-rest
invariant-loop-rest l = next_runs l.rest l.fn.at ≡ next_runs l.runs l.fn.at

abbrev pub decreases-loop-rest : goal.decreases-loop-rest
decreases-loop-rest l = length l.rest
