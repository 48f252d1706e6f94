use Rattle.std.proofs.Common.{◌≡◌, ◌++◌, drop}
use Rattle.mad_fitting.specs.Zones.{behind_of}
use Rattle.mad_fitting.proofs.zones.push_behind.Given as goal

abbrev pub invariant-loop-run : goal.invariant-loop-run
invariant-loop-run l = l.runs.items ++ behind_of l.number (drop l.run-index l.all) ≡ l.fn.runs.items ++ behind_of l.number l.all
