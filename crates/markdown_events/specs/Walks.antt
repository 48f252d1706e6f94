-- The parts of a text as events, one after the other.
use Rattle.std.specs.Prelude.{ℕ, Bool, true, false, ◌==◌, List, [], ◌∷◌, ◌++◌, map, reverse, Option, Some, None, if◌then◌else◌}
use Rattle.markdown_marks.specs.Remaining.{Remaining}
use Rattle.markdown_blocks.specs.declared.containers.Container.{Container}
use Rattle.markdown_blocks.specs.declared.containers.Container.TheVariants.{Quote as QuoteContainer, Item as ItemContainer}
use Rattle.markdown_leaves.specs.Parts.{BlockContent, PartContent, begins, ends, block}
use Rattle.markdown_leaves.specs.Told.{parts_of}
use Rattle.markdown_events.specs.Contents.{EventContent, start, end, line, event_of}
use Rattle.markdown_events.specs.declared.events.Tag.{Tag}
use Rattle.markdown_events.specs.declared.events.Tag.TheVariants.{Quote, List as ListTag, Item, Leaf}
use Rattle.markdown_events.specs.declared.walk.Walk.{Walk}

-- The events so far, and what is open, the innermost first.
pub record Walking : Type 0 where
  pub events : List EventContent
  pub around : List Tag

-- what the code has walked
abbrev pub walking_of : Walk → Walking
walking_of w = record { events = map event_of w.events.items; around = reverse w.around.items }

-- before a text nothing has happened, and nothing is open
abbrev pub nothing_walked : Walking
nothing_walked = record { events = []; around = [] }

-- the innermost of what is open, if anything is
abbrev pub innermost : List Tag → Option Tag
innermost [] = None
innermost (tag ∷ around) = Some tag

-- it is a list
abbrev pub is_list : Option Tag → Bool
is_list (Some (ListTag sign number)) = true
is_list _ = false

-- it is a list whose items have this sign
abbrev pub has_sign : ℕ → Option Tag → Bool
has_sign sign (Some (ListTag own number)) = own == sign
has_sign sign _ = false

-- this begins
abbrev pub begun : Tag → Bool → Walking → Walking
begun tag apart w = record { events = w.events ++ start tag apart ∷ []; around = tag ∷ w.around }

-- the first of these ends
abbrev pub first_ended : List Tag → Walking → Walking
first_ended [] w = w
first_ended (tag ∷ around) w = record { events = w.events ++ end tag ∷ []; around = around }

-- the innermost ends, if anything is open
abbrev pub innermost_ended : Walking → Walking
innermost_ended w = first_ended w.around w

-- the innermost ends, if it is a list
abbrev pub list_ended : Walking → Walking
list_ended w = if is_list (innermost w.around) then innermost_ended w else w

-- An item goes on with the list that is open, if its items have this sign. Else a list begins with the item's number.
abbrev pub in_list : ℕ → ℕ → Bool → Walking → Walking
in_list sign number apart w = if has_sign sign (innermost w.around) then w else begun (ListTag sign number) apart (list_ended w)

-- a container begins
abbrev pub container_begun : Container → Bool → Walking → Walking
container_begun QuoteContainer apart w = begun Quote apart (list_ended w)
container_begun (ItemContainer sign number content) apart w = begun Item apart (in_list sign number apart w)

-- the last container ends, and a list in it
abbrev pub container_ended : Walking → Walking
container_ended w = innermost_ended (list_ended w)

-- lines are told
abbrev pub said : List Remaining → Walking → Walking
said lines w = record w { events = w.events ++ map line lines }

-- a leaf is told, with its lines
abbrev pub leaf_told : BlockContent → Walking → Walking
leaf_told leaf w = innermost_ended (said leaf.lines (begun (Leaf leaf.kind) leaf.apart (list_ended w)))

-- what a part does
abbrev pub part_told : PartContent → Walking → Walking
part_told (begins container apart) w = container_begun container apart w
part_told ends w = container_ended w
part_told (block leaf) w = leaf_told leaf w

-- what these parts do
unfoldable pub parts_told : List PartContent → Walking → Walking
parts_told [] w = w
parts_told (part ∷ parts) w = parts_told parts (part_told part w)

-- the events, once all that is open has ended, the innermost first
abbrev pub all_ended : Walking → List EventContent
all_ended w = w.events ++ map end w.around

-- the events of a text
unfoldable pub events_of : List ℕ → List EventContent
events_of text = all_ended (parts_told (parts_of text) nothing_walked)
