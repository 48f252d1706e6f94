use Rattle.std.proofs.Common.{◌≡◌, ◌≤◌, ◌+◌, ◌-◌, length, drop}
use Rattle.markdown_marks.specs.Remaining.{remaining}
use Rattle.markdown_blocks.specs.Containers.{matched}
use Rattle.markdown_blocks.proofs.containers.matched.Given as goal

abbrev pub invariant-loop-count : goal.invariant-loop-count
invariant-loop-count l = record {
  counted : l.count + (matched l.bare (drop l.count l.containers) (remaining l.left)).count ≡ (matched l.bare l.containers (remaining l.rest)).count;
  follows : (matched l.bare (drop l.count l.containers) (remaining l.left)).rest ≡ (matched l.bare l.containers (remaining l.rest)).rest;
  within : l.count ≤ length l.containers;
}

abbrev pub decreases-loop-count : goal.decreases-loop-count
decreases-loop-count l = length l.containers - l.count
