use Rattle.std.proofs.Common.{◌≡◌, length}
use Rattle.markdown_leaves.specs.Defining.{after_definitions}
use Rattle.markdown_leaves.proofs.defining.after_definitions.Given as goal

abbrev pub invariant-loop-count : goal.invariant-loop-count
invariant-loop-count l = after_definitions l.count l.rest ≡ after_definitions (length l.text) l.text

abbrev pub decreases-loop-count : goal.decreases-loop-count
decreases-loop-count l = l.count
