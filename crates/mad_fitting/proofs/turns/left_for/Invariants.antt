use Rattle.std.proofs.Common.{◌≡◌, ◌-◌, drop}
use Rattle.mad_fitting.specs.Parts.{gained}
use Rattle.mad_fitting.proofs.turns.left_for.Given as goal

abbrev pub invariant-loop-number : goal.invariant-loop-number
invariant-loop-number l = l.left - gained l.excess l.columns l.least l.number (drop l.number l.gains) ≡ l.excess - gained l.excess l.columns l.least 0 l.gains
