-- Numbers of links on a screen, each where its link begins.
use Rattle.std.specs.Prelude.{ℕ, ◌+◌, ◌-◌, max, List, [], drop, slice_index, slice_index_or, take}
use Rattle.std.specs.List.{flat_map, range_with_len}
use Rattle.mad_format.specs.declared.line.FmtLine.{FmtLine}
use Rattle.mad_link_places.specs.LinkPlaces.{section_places}
use Rattle.mad_link_places.specs.declared.places.LinkPlace.{LinkPlace}
use Rattle.mad_outline.specs.LinkLists.{LinksIn, links_before}

-- the lines of rows from one on up to another
abbrev pub rows_between : ℕ → ℕ → List FmtLine → List FmtLine
rows_between from to lines = take (to - from) (drop from lines)

-- the links of a section of this number that begin on a screen, which shows so many rows from `top` on, where sections begin in these rows
abbrev pub section_numbers : LinksIn → List FmtLine → List ℕ → ℕ → ℕ → ℕ → List LinkPlace
section_numbers l lines starts top height section =
    let first = slice_index starts section in
    section_places (slice_index_or l.of.marks section []) (links_before l.from section l.of.links) first (top - first) ((top + height) - max first top) (rows_between first (slice_index starts (section + 1)) lines)

-- those of all of its sections
abbrev pub link_numbers : LinksIn → List FmtLine → List ℕ → ℕ → ℕ → List LinkPlace
link_numbers l lines starts top height = flat_map (section_numbers l lines starts top height) (range_with_len l.from (l.to - l.from))
