-- Lists: neighbouring items of one sign. A list is loose or tight.
use Rattle.std.specs.Prelude.{ℕ, Bool, true, false, not, ◌||◌, ◌&&◌, ◌==◌, Option, Some, None, if◌then◌else◌}
use Rattle.markdown_blocks.specs.declared.containers.Container.TheVariants.{Quote, Item}
use Rattle.markdown_leaves.specs.declared.parts.Kind.{Kind}
use Rattle.markdown_leaves.specs.declared.parts.Kind.TheVariants.{Nothing, Paragraph, Definitions}
use Rattle.markdown_as_html.specs.Blocks.{Blocks, no_more, leaf, holds}

-- what is before a block in its container: nothing, an item with this sign, or another block
pub data Before : Type 0 where
  nothing : Before
  item : ℕ → Before
  other : Before

-- Blank lines before an item are between two blocks of its container, unless it is the first, or goes on with a list.
abbrev pub parts_item : Before → ℕ → Bool
parts_item nothing sign = false
parts_item (item before) sign = not (before == sign)
parts_item other sign = true

-- nothing is before the block in its container
abbrev pub is_first : Before → Bool
is_first nothing = true
is_first _ = false

-- whether blank lines are between two of these blocks; items of one list are one block
unfoldable pub are_parted : Before → Blocks → Bool
are_parted before no_more = false
are_parted before (leaf b after) = (b.apart && not (is_first before)) || are_parted other after
are_parted before (holds Quote apart inner after) = (apart && not (is_first before)) || are_parted other after
are_parted before (holds (Item sign number content) apart inner after) = (apart && parts_item before sign) || are_parted (item sign) after

-- whether of the items that go on with a list one is behind blank lines, or has some between two of its blocks
unfoldable pub goes_on_loose : ℕ → Blocks → Bool
goes_on_loose list no_more = false
goes_on_loose list (leaf b after) = false
goes_on_loose list (holds Quote apart inner after) = false
goes_on_loose list (holds (Item sign number content) apart inner after) =
    (list == sign) && (apart || are_parted nothing inner || goes_on_loose list after)

-- A list is loose where blank lines are between two of its items, or between two blocks of one of them. This is its first item, with its
-- blocks and those after it.
abbrev pub is_loose : ℕ → Blocks → Blocks → Bool
is_loose sign inner after = are_parted nothing inner || goes_on_loose sign after

-- a list that has begun
pub record Listing : Type 0 where
  pub sign : ℕ
  pub tight : Bool

-- an item with this sign goes on with the list
abbrev pub is_in : Option Listing → ℕ → Bool
is_in None sign = false
is_in (Some list) sign = list.sign == sign

-- the list that begins with an item, tight or loose by the blocks in it and after it
abbrev pub begun_list : ℕ → Blocks → Blocks → Listing
begun_list sign inner after = record { sign = sign; tight = not (is_loose sign inner after) }

-- the list that an item with this sign is in: the one before it, or a new one
abbrev pub list_of : Option Listing → ℕ → Blocks → Blocks → Listing
list_of None sign inner after = begun_list sign inner after
list_of (Some list) sign inner after = if list.sign == sign then list else begun_list sign inner after

-- ---- what is seen

-- a leaf of this kind shows something
abbrev pub is_seen : Kind → Bool
is_seen Nothing = false
is_seen Definitions = false
is_seen _ = true

-- definitions alone aren't seen
unfoldable pub are_seen : Blocks → Bool
are_seen no_more = false
are_seen (leaf b after) = is_seen b.kind || are_seen after
are_seen (holds container apart inner after) = true

-- a paragraph of a tight list, which has no tags of its own
abbrev pub is_tight_paragraph : Bool → Kind → Bool
is_tight_paragraph tight Paragraph = tight
is_tight_paragraph tight _ = false

-- whether the first block that is seen begins a line: a paragraph of a tight list doesn't
unfoldable pub begins_line : Bool → Blocks → Bool
begins_line tight no_more = false
begins_line tight (leaf b after) = if is_seen b.kind then not (is_tight_paragraph tight b.kind) else begins_line tight after
begins_line tight (holds container apart inner after) = true
