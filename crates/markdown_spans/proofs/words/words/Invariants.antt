use Rattle.std.proofs.Common.{◌≡◌, ◌++◌, false, length}
use Rattle.markdown_spans.specs.Words.{words}
use Rattle.markdown_spans.proofs.words.words.Given as goal

abbrev pub invariant-loop-rest : goal.invariant-loop-rest
invariant-loop-rest l = l.out.items ++ words l.begun l.gap l.rest ≡ words false false l.text

abbrev pub decreases-loop-rest : goal.decreases-loop-rest
decreases-loop-rest l = length l.rest
