use Rattle.std.proofs.Common.{◌≡◌, ◌≤◌}
use Rattle.mad_screen.specs.Terminal.{head_before}
use Rattle.mad_screen.proofs.cell.find_head.Given as goal

abbrev pub invariant-loop-left : goal.invariant-loop-left
invariant-loop-left l = record {
  within : l.left ≤ l.x;
  same : head_before l.cells l.start l.x ≡ head_before l.cells l.start l.left;
}

abbrev pub decreases-loop-left : goal.decreases-loop-left
decreases-loop-left l = l.left
