use Rattle.std.proofs.Common.{◌≡◌, ◌≤◌, false, length}
use Rattle.markdown_marks.specs.Definitions.{after_bare}
use Rattle.markdown_marks.proofs.definitions.after_bare.Given as goal

abbrev pub invariant-loop-rest : goal.invariant-loop-rest
invariant-loop-rest l = record { left : after_bare l.depth l.escaped l.rest ≡ after_bare 0 false l.bytes; few : l.depth ≤ 32 }

abbrev pub decreases-loop-rest : goal.decreases-loop-rest
decreases-loop-rest l = length l.rest
