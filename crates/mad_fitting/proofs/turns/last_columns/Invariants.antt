use Rattle.std.proofs.Common.{◌-◌, ◌<◌, ◌≤◌, length}
use Rattle.mad_fitting.specs.Parts.{gained}
use Rattle.mad_fitting.proofs.turns.last_columns.Given as goal

abbrev pub invariant-loop-low : goal.invariant-loop-low
invariant-loop-low l = record {
  order : l.low ≤ l.high;
  enough : l.excess ≤ gained l.excess l.low 0 0 l.gains;
  few : gained l.excess l.high (length l.gains) 0 l.gains < l.excess;
}

abbrev pub decreases-loop-low : goal.decreases-loop-low
decreases-loop-low l = l.high - l.low
