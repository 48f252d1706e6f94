-- Numbers of items, counted in their lists, and the gutters of containers.
use Rattle.std.specs.Prelude.{ℕ, ◌+◌, ◌-◌, Bool, true, false, ◌||◌, ◌==◌, List, length, take, min, slice_index_or, Option, Some, None, if◌then◌else◌}
use Rattle.std.specs.List.{suffix_len}
use Rattle.mad_sections.specs.declared.gutters.Gutter.{Gutter}
use Rattle.mad_sections.specs.declared.gutters.Gutter.TheVariants.{Bar, Bullet, Number, Task}
use Rattle.markdown_gutters.specs.declared.lists.Counted.{Counted}

-- ---- lists

-- no list, or one that has ended
abbrev pub no_list : Counted
no_list = record { sign = 0; next = 0 }

-- the list in the innermost open container
abbrev pub last_list : List Counted → Counted
last_list lists = slice_index_or lists (length lists - 1) no_list

-- the number of an item: the next one of its list, or the one that it has, if it begins a list
abbrev pub number_in : Counted → ℕ → ℕ → ℕ
number_in list sign number = if list.sign == sign then list.next else number

-- the list after an item: its next number is one more, but fits 32 bits
abbrev pub list_after : ℕ → ℕ → Counted
list_after sign number = record { sign = sign; next = min (number + 1) 4294967295 }

-- ---- gutters

-- an item that has this sign has a number
abbrev pub is_number : ℕ → Bool
is_number sign = (sign == 46) || (sign == 41)

-- the gutter that an item has: its number, or a bullet
abbrev pub item_gutter : ℕ → ℕ → Gutter
item_gutter sign number = if is_number sign then Number number else Bullet

-- it is an item's, so its other face is blank
abbrev pub is_item : Gutter → Bool
is_item Bullet = true
is_item (Number number) = true
is_item (Task done) = true
is_item _ = false

-- without the items behind the last bar
abbrev pub up_to_bar : List Gutter → List Gutter
up_to_bar gutters = take (length gutters - suffix_len is_item gutters) gutters

-- the gutter of the innermost open container, if there is one
abbrev pub last_gutter : List Gutter → Option Gutter
last_gutter gutters = if length gutters == 0 then None else Some (slice_index_or gutters (length gutters - 1) Bar)
