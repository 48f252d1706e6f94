use Rattle.markdown_gutters.proofs.GutterLemmas.{AreItems}
use Rattle.markdown_gutters.proofs.lists.up_to_bar.Given as goal

abbrev pub invariant-loop-len : goal.invariant-loop-len
invariant-loop-len l = AreItems l.gutters l.len

abbrev pub decreases-loop-len : goal.decreases-loop-len
decreases-loop-len l = l.len
