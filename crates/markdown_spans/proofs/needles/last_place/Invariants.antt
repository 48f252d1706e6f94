use Rattle.std.proofs.Common.{◌≤◌, length}
use Rattle.markdown_spans.specs.Needles.{IsLast}
use Rattle.markdown_spans.proofs.needles.last_place.Given as goal

abbrev pub invariant-loop-last : goal.invariant-loop-last
invariant-loop-last l = record { within : l.last ≤ length l.text; none : IsLast l.needle l.last l.text }

abbrev pub decreases-loop-last : goal.decreases-loop-last
decreases-loop-last l = l.last
