use Rattle.std.proofs.Common.{◌≡◌, ◌++◌, map, length}
use Rattle.markdown_marks.specs.Remaining.{remaining}
use Rattle.markdown_stream.specs.Held.{line_held}
use Rattle.markdown_stream.proofs.open_leaf.rests_of.Given as goal

abbrev pub invariant-loop-rest : goal.invariant-loop-rest
invariant-loop-rest l = map remaining l.rests.items ++ map line_held l.rest ≡ map line_held l.lines

abbrev pub decreases-loop-rest : goal.decreases-loop-rest
decreases-loop-rest l = length l.rest
