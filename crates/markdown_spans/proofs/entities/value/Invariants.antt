use Rattle.std.proofs.Common.{◌≡◌, ◌<◌, ◌^◌, drop}
use Rattle.markdown_spans.specs.Entities.{value_after}
use Rattle.markdown_spans.proofs.entities.value.Given as goal

abbrev pub invariant-loop-b : goal.invariant-loop-b
invariant-loop-b l = record { so_far : value_after l.value (drop l.b-index l.digits) ≡ value_after 0 l.digits; small : l.value < 16 ^ l.b-index }
