use Rattle.std.proofs.Common.{◌≡◌, ◌++◌, map, length}
use Rattle.markdown_marks.specs.Remaining.{remaining}
use Rattle.markdown_stream.specs.Held.{line_held}
use Rattle.markdown_stream.proofs.open_leaf.held_lines.Given as goal

abbrev pub invariant-loop-rest : goal.invariant-loop-rest
invariant-loop-rest l = map line_held l.held.items ++ map remaining l.rest ≡ map remaining l.lines

abbrev pub decreases-loop-rest : goal.decreases-loop-rest
decreases-loop-rest l = length l.rest
