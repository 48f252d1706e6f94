use Rattle.std.proofs.Common.{◌≡◌, map, take}
use Rattle.markdown_marks.specs.Remaining.{remaining}
use Rattle.markdown_inline_events.specs.Contents.{event_of}
use Rattle.markdown_inline_events.specs.Leaf.{IsReached, event_place}
use Rattle.markdown_inline_events.proofs.leaf.line_places.Given as goal

abbrev pub invariant-loop-event : goal.invariant-loop-event
invariant-loop-event l = record {
  reached : IsReached (map remaining l.lines) l.reached.line l.reached.before;
  places : l.places.items ≡ map (event_place (map remaining l.lines)) (map event_of (take l.event-index l.events));
}
