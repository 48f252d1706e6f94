use Rattle.std.proofs.Common.{◌≡◌, ◌≤◌, ◌<◌, ◌-◌, length, drop, get_or}
use Rattle.mad_mark_runs.specs.Marks.{next_start}
use Rattle.mad_mark_runs.proofs.mark_runs.runs_from.Given as goal

abbrev pub invariant-loop-low : goal.invariant-loop-low
invariant-loop-low l = record {
  order : l.low ≤ l.high;
  within : l.high ≤ length l.runs;
  before : next_start (drop l.low l.runs) l.number ≡ next_start l.runs l.number;
  behind : l.high < length l.runs → l.number < (get_or l.runs l.high (record { value = 0; end = 0 })).end;
}

abbrev pub decreases-loop-low : goal.decreases-loop-low
decreases-loop-low l = l.high - l.low
