use Rattle.std.proofs.Common.{◌-◌, length}
use Rattle.std.specs.Str.{IsCharBoundary}
use Rattle.mad_fitting.proofs.ZoneLemmas.{FoundTo}
use Rattle.mad_fitting.proofs.zones.push_runs.Given as goal

abbrev pub invariant-loop-run : goal.invariant-loop-run
invariant-loop-run l = record {
  border : IsCharBoundary l.compound.src.now l.at;
  found : FoundTo l.number l.compound.src.now l.at l.fn.runs.items l.runs.items;
}

abbrev pub decreases-loop-run : goal.decreases-loop-run
decreases-loop-run l = length l.compound.src.now - l.at
