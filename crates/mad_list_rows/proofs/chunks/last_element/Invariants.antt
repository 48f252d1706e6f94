use Rattle.std.proofs.Common.{◌≡◌, ◌≤◌, length, take}
use Rattle.mad_list_rows.specs.Chunks.{all_of, last_of}
use Rattle.mad_list_rows.proofs.chunks.last_element.Given as goal

abbrev pub invariant-loop-left : goal.invariant-loop-left
invariant-loop-left g l = (last_of (all_of (take l.left l.chunks)) ≡ last_of (all_of (take l.fn.count l.chunks))) × (l.left ≤ length l.chunks)

abbrev pub decreases-loop-left : goal.decreases-loop-left
decreases-loop-left g l = l.left
