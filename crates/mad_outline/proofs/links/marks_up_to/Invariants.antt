use Rattle.std.proofs.Common.{◌≡◌, ◌+◌, ◌-◌, drop, length}
use Rattle.mad_outline.specs.LinkLists.{marks_up_to}
use Rattle.mad_outline.proofs.links.marks_up_to.Given as goal

abbrev pub invariant-loop-count : goal.invariant-loop-count
invariant-loop-count l = l.count + marks_up_to l.mark (drop l.count l.marks) ≡ marks_up_to l.mark l.marks

abbrev pub decreases-loop-count : goal.decreases-loop-count
decreases-loop-count l = length l.marks - l.count
