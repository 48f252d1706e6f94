-- How often the faces of items are shown where tables are lists.
use Rattle.std.specs.Prelude.{◌≡◌, ◌⊎◌, ℕ, ◌+◌, Bool, List, [], ◌∷◌, ◌++◌, length, Option}
use Rattle.std.specs.List.{AllByRecursion}
use Rattle.markdown_leaves.specs.Parts.{PartContent}
use Rattle.mad_sections.specs.Sections.{SectionContent}
use Rattle.mad_sections.specs.declared.gutters.Gutter.TheVariants.{Bullet}
use Rattle.mad_sections.specs.declared.table_rooms.TableRules.{TableRules}
use Rattle.mad_sections.specs.Unfolded.{unfolded}
use Rattle.markdown_lines.specs.Links.{Defined}
use Rattle.markdown_reader.specs.Faces.{faces_in, faces_of}
use Rattle.markdown_reader.specs.Mapping.{nothing_shown, shown_parts}

-- Sections are a list in the place of a table: its items are behind the gutters of the table and a bullet, which begins with each. So beside the bullets as many
-- first faces are shown as the table has, once.
pub record ShowsFaces (section : SectionContent) (items : List SectionContent) : Type 0 where
  pub gutters : AllByRecursion (λ (item : SectionContent). item.gutters ≡ section.gutters ++ Bullet ∷ []) items
  pub faces : faces_of items ≡ faces_in section + length items

-- Whatever the width, a section of Markdown is shown as it is, or as such a list.
abbrev pub ListsShowFaces : Type 0
ListsShowFaces = (rules : TableRules) (ascii : Bool) (width : Option ℕ) (defined : Defined) (parts : List PartContent)
    → AllByRecursion (λ (s : SectionContent). (unfolded rules ascii width s ≡ s ∷ []) ⊎ ShowsFaces s (unfolded rules ascii width s)) (shown_parts defined parts nothing_shown).sections
