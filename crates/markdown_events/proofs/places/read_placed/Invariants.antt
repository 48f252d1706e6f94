use Rattle.std.proofs.Common.{◌≡◌, ◌+◌, ◌≤◌, length}
use Rattle.markdown_blocks.specs.Lines.{text_lines}
use Rattle.markdown_blocks.specs.Steps.{state_of}
use Rattle.markdown_leaves.specs.Told.{unread_text}
use Rattle.markdown_events.specs.Places.{nothing_placed, placed_from, placing_of}
use Rattle.markdown_events.proofs.places.read_placed.Given as goal

abbrev pub invariant-loop-rest : goal.invariant-loop-rest
invariant-loop-rest l = record {
  few : l.number + length l.rest ≤ length l.text;
  same : placed_from l.number (state_of l.reader) (placing_of l.placer) (text_lines l.rest) ≡ placed_from 0 (unread_text l.text).state nothing_placed (text_lines l.text);
}

abbrev pub decreases-loop-rest : goal.decreases-loop-rest
decreases-loop-rest l = length l.rest
