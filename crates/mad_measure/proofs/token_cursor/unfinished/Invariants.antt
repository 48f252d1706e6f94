use Rattle.std.proofs.Common.{length, drop, ◌-◌}
use Rattle.mad_measure.specs.TokenPositions.{IsSamePosition}
use Rattle.mad_measure.proofs.token_cursor.unfinished.Given as goal

abbrev pub invariant-loop-at : goal.invariant-loop-at
invariant-loop-at l = IsSamePosition l.fn.start (drop l.fn.at l.compounds) l.start (drop l.at l.compounds)

abbrev pub decreases-loop-at : goal.decreases-loop-at
decreases-loop-at l = length l.compounds - l.at
