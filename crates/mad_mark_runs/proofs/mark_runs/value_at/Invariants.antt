use Rattle.std.proofs.Common.{◌≡◌, drop}
use Rattle.mad_mark_runs.specs.Marks.{value_at}
use Rattle.mad_mark_runs.proofs.mark_runs.value_at.Given as goal

abbrev pub invariant-loop-run : goal.invariant-loop-run
invariant-loop-run l = value_at (drop l.run-index l.fn.runs) l.fn.number ≡ value_at l.fn.runs l.fn.number
