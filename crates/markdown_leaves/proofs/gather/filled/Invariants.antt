use Rattle.std.proofs.Common.{◌≡◌, ◌≤◌, ◌+◌, map, length}
use Rattle.markdown_marks.specs.Remaining.{remaining}
use Rattle.markdown_leaves.specs.Gather.{filled_from}
use Rattle.markdown_leaves.proofs.gather.filled.Given as goal

abbrev pub invariant-loop-rest : goal.invariant-loop-rest
invariant-loop-rest l = record { left : filled_from l.count l.filled (map remaining l.rest) ≡ filled_from 0 0 (map remaining l.lines); few : l.count + length l.rest ≤ length l.lines; filled : l.filled ≤ l.count }

abbrev pub decreases-loop-rest : goal.decreases-loop-rest
decreases-loop-rest l = length l.rest
