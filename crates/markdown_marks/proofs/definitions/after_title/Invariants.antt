use Rattle.std.proofs.Common.{◌≡◌, false, length}
use Rattle.markdown_marks.specs.Definitions.{after_title}
use Rattle.markdown_marks.proofs.definitions.after_title.Given as goal

abbrev pub invariant-loop-rest : goal.invariant-loop-rest
invariant-loop-rest l = after_title l.close l.escaped l.rest ≡ after_title l.close false l.bytes

abbrev pub decreases-loop-rest : goal.decreases-loop-rest
decreases-loop-rest l = length l.rest
