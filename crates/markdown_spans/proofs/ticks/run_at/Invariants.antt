use Rattle.std.proofs.Common.{◌≡◌, ◌+◌, length}
use Rattle.markdown_spans.specs.Ticks.{run_at}
use Rattle.markdown_spans.proofs.ticks.run_at.Given as goal

abbrev pub invariant-loop-rest : goal.invariant-loop-rest
invariant-loop-rest l = record { left : run_at l.marks l.seen l.at l.rest ≡ run_at l.marks 0 0 l.text; few : l.at + l.seen + length l.rest ≡ length l.text }

abbrev pub decreases-loop-rest : goal.decreases-loop-rest
decreases-loop-rest l = length l.rest
