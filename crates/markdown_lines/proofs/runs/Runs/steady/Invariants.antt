use Rattle.std.proofs.Common.{◌≡◌, ◌++◌, ◌-◌, map, length, drop}
use Rattle.markdown_lines.specs.Said.{said}
use Rattle.markdown_lines.specs.Steady.{steady_run}
use Rattle.markdown_lines.proofs.runs.Runs.steady.Given as goal

abbrev pub invariant-loop-run : goal.invariant-loop-run
invariant-loop-run l = said l.made ++ map steady_run (drop l.index (said l.self)) ≡ map steady_run (said l.self)

abbrev pub decreases-loop-run : goal.decreases-loop-run
decreases-loop-run l = length (said l.self) - l.index
