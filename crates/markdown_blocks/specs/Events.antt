-- What happens in a text: the containers that begin and end, and what each line does to the leaves.
use Rattle.std.specs.Prelude.{◌≡◌, ℕ, zero, suc, ◌-◌, ◌<◌, List, [], ◌∷◌, ◌++◌, map, length, drop, Option, Some, None}
use Rattle.markdown_marks.specs.Remaining.{Remaining}
use Rattle.markdown_blocks.specs.Laws.{IsPlaced}
use Rattle.markdown_blocks.specs.Lines.{text_lines}
use Rattle.markdown_blocks.specs.Steps.{State, Line, Step, state_of, line_of, step}
use Rattle.markdown_blocks.specs.declared.containers.Container.{Container}
use Rattle.markdown_blocks.specs.declared.cursor.BlockCursor.{BlockCursor}
use Rattle.markdown_blocks.specs.declared.leaves.Deed.{Deed}
use Rattle.markdown_blocks.specs.declared.reader.LineRead.{LineRead}

-- A container ends or begins, or a line does this to the leaves, with this text.
pub data Event : Type 0 where
  leave : Event
  enter : Container → Event
  line : Deed → Remaining → Event

-- so many containers end
abbrev pub leaves : ℕ → List Event
leaves zero = []
leaves (suc n) = leave ∷ leaves n

-- what happens in a line between these containers, that were open before it, and those, that are after it
abbrev pub line_events : List Container → Line → List Container → List Event
line_events before read after = leaves (length before - read.kept) ++ (map enter (drop read.kept after) ++ line read.deed read.text ∷ [])

-- what happens in a step
abbrev pub step_events : State → Step → List Event
step_events state done = line_events state.containers done.line done.state.containers

-- what happens in these lines from this state on: after the last all containers end
unfoldable pub events_from : State → List (List ℕ) → List Event
events_from state [] = leaves (length state.containers)
events_from state (text ∷ texts) = step_events state (step state text) ++ events_from (step state text).state texts

-- what is left of a text, and the state before it
pub record Unread : Type 0 where
  pub text : List ℕ
  pub state : State

-- what a cursor hasn't read yet
abbrev pub unread : BlockCursor → Unread
unread cursor = record { text = cursor.rest.now; state = state_of cursor.reader }

-- what happens in what is left
unfoldable pub events_of : Unread → List Event
events_of left = events_from left.state (text_lines left.text)

-- The step from one position to another read this line, which is the first of what was left; the others are left now. Or it read none, and
-- nothing but ends of containers was left.
abbrev pub IsRead : Unread → Option LineRead → Unread → Type 0
IsRead before None after = events_of before ≡ leaves (length before.state.containers)
IsRead before (Some read) after = (events_of before ≡ line_events before.state.containers (line_of read) after.state.containers ++ events_of after) × IsPlaced before.state (record { state = after.state; line = line_of read }) × (length after.text < length before.text)
