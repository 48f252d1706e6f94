-- Which sections may be shown as lists.
use Rattle.std.specs.Prelude.{◌≡◌, ◌⊎◌, ◌≤◌, List, [], ◌∷◌, ◌++◌, length, Some, None}
use Rattle.std.specs.List.{AllByRecursion}
use Rattle.markdown_leaves.specs.Parts.{PartContent}
use Rattle.mad_sections.specs.Sections.{SectionContent}
use Rattle.mad_sections.specs.declared.gutters.Gutter.TheVariants.{Bullet}
use Rattle.markdown_lines.specs.Links.{Defined}
use Rattle.markdown_reader.specs.Mapping.{nothing_shown, shown_parts}

-- A section that may be shown as a list has its own gutters in front of the items, and a bullet. No more gutters begin with a section than it has.
pub record MayBeListed (s : SectionContent) : Type 0 where
  pub fresh : s.fresh ≤ length s.gutters
  pub list : (s.list ≡ None) ⊎ (s.list ≡ Some (s.gutters ++ Bullet ∷ []))

-- so it is with all sections of all parts
abbrev pub SectionsMayBeListed : Type 0
SectionsMayBeListed = (defined : Defined) (parts : List PartContent) → AllByRecursion MayBeListed (shown_parts defined parts nothing_shown).sections
