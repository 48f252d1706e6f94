use Rattle.std.proofs.Common.{◌≤◌, ◌-◌, length, map}
use Rattle.markdown_marks.specs.Remaining.{remaining}
use Rattle.markdown_inline_events.specs.Leaf.{IsReached}
use Rattle.markdown_inline_events.proofs.leaf.reach.Given as goal

abbrev pub invariant-loop-reached : goal.invariant-loop-reached
invariant-loop-reached l = record {
  reached : IsReached (map remaining l.lines) l.reached.line l.reached.before;
  behind : l.reached.before ≤ l.place;
}

abbrev pub decreases-loop-reached : goal.decreases-loop-reached
decreases-loop-reached l = length l.lines - l.reached.line
