use Rattle.std.proofs.Common.{◌≡◌, [], map, length}
use Rattle.markdown_marks.specs.Remaining.{remaining}
use Rattle.markdown_leaves.specs.Defining.{joined}
use Rattle.markdown_leaves.proofs.defining.joined.Given as goal

abbrev pub invariant-loop-rest : goal.invariant-loop-rest
invariant-loop-rest l = joined l.text.items (map remaining l.rest) ≡ joined [] (map remaining l.lines)

abbrev pub decreases-loop-rest : goal.decreases-loop-rest
decreases-loop-rest l = length l.rest
