use Rattle.std.proofs.Common.{◌-◌, ◌<◌, ◌≤◌, length}
use Rattle.mad_fitting.specs.Parts.{gained}
use Rattle.mad_fitting.proofs.turns.last_number.Given as goal

abbrev pub invariant-loop-high : goal.invariant-loop-high
invariant-loop-high l = record {
  order : l.low < l.high;
  within : l.high ≤ length l.gains;
  enough : l.excess ≤ gained l.excess l.columns l.low 0 l.gains;
  few : gained l.excess l.columns l.high 0 l.gains < l.excess;
}

abbrev pub decreases-loop-high : goal.decreases-loop-high
decreases-loop-high l = l.high - l.low
