-- A text as its parts: what happens in it, one after the other.
use Rattle.std.specs.Prelude.{ℕ, ◌-◌, false, List, [], ◌∷◌, ◌++◌, map, drop}
use Rattle.markdown_blocks.specs.Events.{Event, leave, leaves, enter, line, Unread, events_of}
use Rattle.markdown_blocks.specs.Steps.{Line}
use Rattle.markdown_blocks.specs.declared.containers.Container.{Container}
use Rattle.markdown_blocks.specs.declared.leaves.Leaf.TheVariants.{Nothing}
use Rattle.markdown_leaves.specs.Gather.{Gathering, nothing_told, closed, line_done, entered, left}
use Rattle.markdown_leaves.specs.Parts.{PartContent}

-- what an event does
abbrev pub happened : Event → Gathering → Gathering
happened leave g = left g
happened (enter container) g = entered container g
happened (line deed text) g = record (line_done deed text g) { fresh = false }

-- what these events do
unfoldable pub told : Gathering → List Event → Gathering
told g [] = g
told g (event ∷ events) = told (happened event g) events

-- what happens in a line before which so many containers were open, and these after it
abbrev pub events_between : ℕ → Line → List Container → List Event
events_between before read after = leaves (before - read.kept) ++ (map enter (drop read.kept after) ++ line read.deed read.text ∷ [])

-- a text before its first line
abbrev pub unread_text : List ℕ → Unread
unread_text text = record { text = text; state = record { containers = []; leaf = Nothing; defining = []; cells = 0 } }

-- the parts of a text: containers that begin and end, and leaves with their lines
unfoldable pub parts_of : List ℕ → List PartContent
parts_of text = (closed (told nothing_told (events_of (unread_text text)))).parts
