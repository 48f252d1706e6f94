-- What holds of the events of every text.
use Rattle.std.specs.Prelude.{◌≡◌, ℕ, Bool, true, false, not, ◌&&◌, List, [], ◌∷◌, drop, Option, Some, if◌then◌else◌}
use Rattle.std.specs.List.{flat_map}
use Rattle.markdown_marks.specs.Remaining.{Remaining}
use Rattle.markdown_leaves.specs.Parts.{PartContent, block}
use Rattle.markdown_leaves.specs.Told.{parts_of}
use Rattle.markdown_events.specs.Contents.{EventContent, start, end, line}
use Rattle.markdown_events.specs.Walks.{events_of, innermost, is_list}
use Rattle.markdown_events.specs.declared.events.Tag.{Tag}
use Rattle.markdown_events.specs.declared.events.Tag.TheVariants.{Item, Leaf}

-- it is a leaf
abbrev pub is_leaf : Option Tag → Bool
is_leaf (Some (Leaf kind)) = true
is_leaf _ = false

-- it is an item
abbrev pub is_item : Tag → Bool
is_item Item = true
is_item _ = false

-- What is open may hold this: a leaf holds nothing that begins, in a list items begin, and elsewhere all else.
abbrev pub may_hold : Option Tag → Tag → Bool
may_hold around tag = not (is_leaf around) && (if is_list around then is_item tag else not (is_item tag))

-- After these events the second are open, where the first were before. What begins may be where it is, what ends is the innermost, and a line is in a leaf.
abbrev pub LeadsTo : List Tag → List EventContent → List Tag → Type 0
LeadsTo around [] after = around ≡ after
LeadsTo around (start tag apart ∷ events) after = (may_hold (innermost around) tag ≡ true) × LeadsTo (tag ∷ around) events after
LeadsTo around (end tag ∷ events) after = (innermost around ≡ Some tag) × LeadsTo (drop 1 around) events after
LeadsTo around (line text ∷ events) after = (is_leaf (innermost around) ≡ true) × LeadsTo around events after

-- Nothing is open before the events of a text, nor after them.
abbrev pub EventsNest : Type 0
EventsNest = (text : List ℕ) → LeadsTo [] (events_of text) []

-- the line of an event, if it is one
abbrev pub event_lines : EventContent → List Remaining
event_lines (line text) = text ∷ []
event_lines _ = []

-- the lines of a part, if it is a leaf
abbrev pub part_lines : PartContent → List Remaining
part_lines (block leaf) = leaf.lines
part_lines _ = []

-- The lines of the events of a text are those of its leaves, in their order.
abbrev pub LinesInOrder : Type 0
LinesInOrder = (text : List ℕ) → flat_map event_lines (events_of text) ≡ flat_map part_lines (parts_of text)
