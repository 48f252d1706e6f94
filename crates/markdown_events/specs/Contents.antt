-- What events say, whatever the addresses of their lines.
use Rattle.std.specs.Prelude.{Bool}
use Rattle.markdown_marks.specs.Remaining.{Remaining, remaining}
use Rattle.markdown_events.specs.declared.events.Event.{Event}
use Rattle.markdown_events.specs.declared.events.Event.TheVariants.{Start, End, Line}
use Rattle.markdown_events.specs.declared.events.Tag.{Tag}

-- this begins, behind blank lines or not; this ends; or a line is told
pub data EventContent : Type 0 where
  start : Tag → Bool → EventContent
  end : Tag → EventContent
  line : Remaining → EventContent

-- what an event of the code says
abbrev pub event_of : Event → EventContent
event_of (Start tag apart) = start tag apart
event_of (End tag) = end tag
event_of (Line text) = line (remaining text)
