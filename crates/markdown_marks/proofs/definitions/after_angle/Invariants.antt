use Rattle.std.proofs.Common.{◌≡◌, false, length}
use Rattle.markdown_marks.specs.Definitions.{after_angle}
use Rattle.markdown_marks.proofs.definitions.after_angle.Given as goal

abbrev pub invariant-loop-rest : goal.invariant-loop-rest
invariant-loop-rest l = after_angle l.escaped l.rest ≡ after_angle false l.bytes

abbrev pub decreases-loop-rest : goal.decreases-loop-rest
decreases-loop-rest l = length l.rest
