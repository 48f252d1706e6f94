use Rattle.std.proofs.Common.{◌≡◌, ◌≤◌, ◌++◌, false, length}
use Rattle.markdown_marks.specs.Remaining.{remaining}
use Rattle.markdown_blocks.specs.Containers.{opened, ends_in_item}
use Rattle.markdown_blocks.specs.Laws.{HasFront}
use Rattle.markdown_blocks.proofs.containers.open_containers.Given as goal

abbrev pub invariant-loop-room : goal.invariant-loop-room
invariant-loop-room l = record {
  items : l.containers.items ++ (opened l.room l.interrupts (remaining l.left)).containers ≡ l.fn.containers.items ++ (opened l.most l.in_paragraph (remaining l.rest)).containers;
  bare : ends_in_item l.is_bare (opened l.room l.interrupts (remaining l.left)).containers ≡ ends_in_item false (opened l.most l.in_paragraph (remaining l.rest)).containers;
  follows : (opened l.room l.interrupts (remaining l.left)).rest ≡ (opened l.most l.in_paragraph (remaining l.rest)).rest;
  front : HasFront l.fn.containers.items l.containers.items;
  more : length l.fn.containers.items ≤ length l.containers.items;
}

abbrev pub decreases-loop-room : goal.decreases-loop-room
decreases-loop-room l = l.room
