use Rattle.std.proofs.Common.{◌≡◌, ◌++◌, drop}
use Rattle.mad_fitting.specs.Zones.{before_of}
use Rattle.mad_fitting.proofs.zones.push_before.Given as goal

abbrev pub invariant-loop-run : goal.invariant-loop-run
invariant-loop-run l = l.runs.items ++ before_of l.number (drop l.run-index l.all) ≡ l.fn.runs.items ++ before_of l.number l.all
