-- How often an item's bullet, number or box is shown.
use Rattle.std.specs.Prelude.{◌≡◌, ℕ, ◌+◌, ◌-◌, List, [], ◌∷◌, length, drop, if◌then◌else◌}
use Rattle.markdown_blocks.specs.declared.containers.Container.TheVariants.{Item}
use Rattle.markdown_leaves.specs.Parts.{PartContent, begins}
use Rattle.mad_sections.specs.Sections.{SectionContent}
use Rattle.mad_sections.specs.declared.gutters.Gutter.{Gutter}
use Rattle.markdown_lines.specs.Links.{Defined}
use Rattle.markdown_gutters.specs.Lists.{is_item}
use Rattle.markdown_reader.specs.Mapping.{Mapping, nothing_shown, shown_parts}

-- how many gutters are items'
abbrev pub items_in : List Gutter → ℕ
items_in [] = 0
items_in (g ∷ gutters) = if is_item g then 1 + items_in gutters else items_in gutters

-- how many items begin with a section, so that its first row has their first faces
abbrev pub faces_in : SectionContent → ℕ
faces_in s = items_in (drop (length s.gutters - s.fresh) s.gutters)

-- how many items begin with these sections
abbrev pub faces_of : List SectionContent → ℕ
faces_of [] = 0
faces_of (s ∷ sections) = faces_in s + faces_of sections

-- how many items begin with a part
abbrev pub begun_by : PartContent → ℕ
begun_by (begins (Item sign number content) apart) = 1
begun_by _ = 0

-- how many items begin among parts
abbrev pub items_of : List PartContent → ℕ
items_of [] = 0
items_of (part ∷ parts) = begun_by part + items_of parts

-- how many items are open of which nothing is shown yet
abbrev pub waiting : Mapping → ℕ
waiting m = items_in (drop m.seen m.gutters)

-- As many bullets, numbers and boxes of items are in front of rows as items began, but for items that are open and that nothing is shown of. Which ones, `SectionsNest` says.
abbrev pub FacesOnce : Type 0
FacesOnce = (defined : Defined) (parts : List PartContent) → faces_of (shown_parts defined parts nothing_shown).sections + waiting (shown_parts defined parts nothing_shown) ≡ items_of parts
