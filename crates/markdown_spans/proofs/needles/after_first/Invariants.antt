use Rattle.std.proofs.Common.{◌≡◌, length}
use Rattle.markdown_spans.specs.Needles.{after_first}
use Rattle.markdown_spans.proofs.needles.after_first.Given as goal

abbrev pub invariant-loop-rest : goal.invariant-loop-rest
invariant-loop-rest l = after_first l.needle l.rest ≡ after_first l.needle l.text

abbrev pub decreases-loop-rest : goal.decreases-loop-rest
decreases-loop-rest l = length l.rest
