use Rattle.std.proofs.Common.{length}
use Rattle.markdown_html_text.proofs.LeafLemmas.{AreLeaves, texts_of}
use Rattle.markdown_html_text.proofs.leaves.html_leaves.Given as goal

abbrev pub invariant-loop-rest : goal.invariant-loop-rest
invariant-loop-rest l = AreLeaves l.text (texts_of l.leaves.items) l.begun l.rest

abbrev pub decreases-loop-rest : goal.decreases-loop-rest
decreases-loop-rest l = length l.rest
