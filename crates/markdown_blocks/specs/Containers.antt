-- Which containers go on in a line, and which begin in it.
use Rattle.std.specs.Prelude.{ℕ, zero, suc, ◌+◌, Bool, true, false, not, ◌||◌, ◌&&◌, ◌==◌, nat_lt, List, [], ◌∷◌, length, Option, Some, None, is_some, if◌then◌else◌}
use Rattle.markdown_marks.specs.Bytes.{first, is_blank}
use Rattle.markdown_marks.specs.Items.{marker_start, may_interrupt}
use Rattle.markdown_marks.specs.Marks.{is_rule, underline_level}
use Rattle.markdown_marks.specs.Remaining.{Remaining, remaining, take_columns, columns_in_front, skip}
use Rattle.markdown_marks.specs.declared.items.Marker.{Marker}
use Rattle.markdown_blocks.specs.declared.containers.Container.{Container}
use Rattle.markdown_blocks.specs.declared.containers.Container.TheVariants.{Quote, Item}
use Rattle.markdown_blocks.specs.declared.containers.Opening.{Opening}

-- ---- what goes on

-- what follows the sign > of a quote: one blank column after it belongs to it
abbrev pub after_quote : Remaining → Remaining
after_quote rest = take_columns 1 (skip 1 rest)

-- A quote goes on with a sign > after at most three columns.
abbrev pub quote_goes_on : Remaining → Option Remaining
quote_goes_on rest = if (columns_in_front 4 rest == 4) || not (first (take_columns 4 rest).bytes == 62) then None else Some (after_quote (take_columns 4 rest))

-- An item goes on with a line that is indented as its content is, or that is blank. A bare item, whose first line was blank and that
-- has nothing yet, doesn't go on with a blank line.
abbrev pub item_goes_on : ℕ → Bool → Remaining → Option Remaining
item_goes_on content bare rest =
    if is_blank rest.bytes then (if bare then None else Some (take_columns content rest))
    else if columns_in_front content rest == content then Some (take_columns content rest) else None

-- what is left of a line for a container's content, if the container goes on
unfoldable pub goes_on : Container → Bool → Remaining → Option Remaining
goes_on Quote bare rest = quote_goes_on rest
goes_on (Item sign number content) bare rest = item_goes_on content bare rest

-- how many containers go on, and what is left of the line for their content
pub record Matched : Type 0 where
  pub count : ℕ
  pub rest : Remaining

-- a container that goes on counts, and then those in it; else none does
abbrev pub match_more : Option Remaining → Remaining → (Remaining → Matched) → Matched
match_more None rest others = record { count = 0; rest = rest }
match_more (Some next) rest others = record { count = 1 + (others next).count; rest = (others next).rest }

-- The containers go on from the outermost up to the first that doesn't. Only the last can be bare.
unfoldable pub matched : Bool → List Container → Remaining → Matched
matched bare [] rest = record { count = 0; rest = rest }
matched bare (container ∷ inner) rest = match_more (goes_on container (bare && (length inner == 0)) rest) rest (matched bare inner)

-- ---- what begins

-- a container, and what is left of the line for its content
pub record Opened : Type 0 where
  pub container : Container
  pub rest : Remaining

-- the container that the code says begins, and what is left for its content
abbrev pub opened_by : Opening → Opened
opened_by opening = record { container = opening.container; rest = remaining opening.rest }

-- How many blank columns after a marker belong to it: up to four, or one where more follow, as before indented code, or nothing does.
abbrev pub gap_after : Remaining → ℕ
gap_after rest = if is_blank rest.bytes || nat_lt 4 (columns_in_front 5 rest) then 1 else columns_in_front 5 rest

-- the item with this marker, after these columns and before this rest
abbrev pub item_before : ℕ → Marker → Remaining → Opened
item_before indent marker rest = record { container = Item marker.sign marker.number (indent + marker.length + gap_after rest); rest = take_columns (gap_after rest) rest }

-- the item that a marker begins, unless it may not interrupt a paragraph
abbrev pub item_of : Bool → ℕ → Remaining → Option Marker → Option Opened
item_of in_paragraph indent rest None = None
item_of in_paragraph indent rest (Some marker) = if in_paragraph && not (may_interrupt marker rest.bytes) then None else Some (item_before indent marker (skip marker.length rest))

-- A thematic break is no item. Nor is the line under a paragraph, which makes a heading of it.
abbrev pub item_start : Bool → ℕ → Remaining → Option Opened
item_start in_paragraph indent rest =
    if is_rule rest.bytes || (in_paragraph && is_some (underline_level rest.bytes)) then None else item_of in_paragraph indent rest (marker_start rest.bytes)

-- the container that begins after these columns
abbrev pub container_after : Bool → ℕ → Remaining → Option Opened
container_after in_paragraph indent rest =
    if first rest.bytes == 62 then Some (record { container = Quote; rest = after_quote rest }) else item_start in_paragraph indent rest

-- the container that begins a rest, which may be a paragraph's next line
unfoldable pub container_start : Bool → Remaining → Option Opened
container_start in_paragraph rest = if columns_in_front 4 rest == 4 then None else container_after in_paragraph (columns_in_front 4 rest) (take_columns 4 rest)

-- the containers that begin in a line, and what is left of it for the last one's content
pub record Opens : Type 0 where
  pub containers : List Container
  pub rest : Remaining

-- a container that begins, and then those that begin behind it
abbrev pub open_more : Option Opened → Remaining → (Remaining → Opens) → Opens
open_more None rest others = record { containers = []; rest = rest }
open_more (Some found) rest others = record { containers = found.container ∷ (others found.rest).containers; rest = (others found.rest).rest }

-- at most so many containers that begin one after the other
unfoldable pub opened : ℕ → Bool → Remaining → Opens
opened zero in_paragraph rest = record { containers = []; rest = rest }
opened (suc room) in_paragraph rest = open_more (container_start in_paragraph rest) rest (opened room false)

-- the container is an item
abbrev pub is_item : Container → Bool
is_item Quote = false
is_item (Item sign number content) = true

-- whether the last of the containers is an item; where there is none, what was known before
unfoldable pub ends_in_item : Bool → List Container → Bool
ends_in_item before [] = before
ends_in_item before (container ∷ inner) = ends_in_item (is_item container) inner
