use Rattle.std.proofs.Common.{◌≡◌, ◌+◌, ◌≤◌, length}
use Rattle.markdown_writing.specs.Phrases.{most_ticks}
use Rattle.markdown_writing.proofs.phrases.most_ticks.Given as goal

abbrev pub invariant-loop-rest : goal.invariant-loop-rest
invariant-loop-rest l = (most_ticks l.seen l.most l.rest ≡ most_ticks 0 0 l.code) × (l.seen + length l.rest ≤ length l.code)

abbrev pub decreases-loop-rest : goal.decreases-loop-rest
decreases-loop-rest l = length l.rest
