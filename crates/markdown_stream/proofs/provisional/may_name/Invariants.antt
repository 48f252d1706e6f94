use Rattle.std.proofs.Common.{◌≡◌, length}
use Rattle.markdown_stream.specs.Provisional.{may_name}
use Rattle.markdown_stream.proofs.provisional.may_name.Given as goal

abbrev pub invariant-loop-rest : goal.invariant-loop-rest
invariant-loop-rest l = may_name l.rest ≡ may_name l.text

abbrev pub decreases-loop-rest : goal.decreases-loop-rest
decreases-loop-rest l = length l.rest
