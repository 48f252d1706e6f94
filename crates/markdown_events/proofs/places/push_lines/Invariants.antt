use Rattle.std.proofs.Common.{◌≡◌, ◌++◌, map, length}
use Rattle.markdown_leaves.specs.Parts.{part_of}
use Rattle.markdown_events.specs.Places.{begun_in}
use Rattle.markdown_events.proofs.places.push_lines.Given as goal

abbrev pub invariant-loop-rest : goal.invariant-loop-rest
invariant-loop-rest l = l.lines.items ++ begun_in l.number l.behind l.alone (map part_of l.rest) ≡ l.fn.lines.items ++ begun_in l.number l.fn.behind l.alone (map part_of l.parts)

abbrev pub decreases-loop-rest : goal.decreases-loop-rest
decreases-loop-rest l = length l.rest
