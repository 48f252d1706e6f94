use Rattle.std.proofs.Common.{◌≡◌, length}
use Rattle.markdown_html.specs.Ends.{contains}
use Rattle.markdown_html.proofs.ends.contains.Given as goal

abbrev pub invariant-loop-rest : goal.invariant-loop-rest
invariant-loop-rest l = contains l.needle l.rest ≡ contains l.needle l.bytes

abbrev pub decreases-loop-rest : goal.decreases-loop-rest
decreases-loop-rest l = length l.rest
