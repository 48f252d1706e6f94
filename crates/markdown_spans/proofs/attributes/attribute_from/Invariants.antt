use Rattle.std.proofs.Common.{◌≡◌, ◌+◌, length}
use Rattle.markdown_spans.specs.Attributes.{attribute_from}
use Rattle.markdown_spans.proofs.attributes.attribute_from.Given as goal

abbrev pub invariant-loop-rest : goal.invariant-loop-rest
invariant-loop-rest l = record { left : attribute_from l.name (length l.name) l.at l.here l.rest ≡ attribute_from l.name (length l.name) 0 l.fn.place l.bytes; few : l.at + length l.rest ≡ length l.bytes }

abbrev pub decreases-loop-rest : goal.decreases-loop-rest
decreases-loop-rest l = length l.rest
