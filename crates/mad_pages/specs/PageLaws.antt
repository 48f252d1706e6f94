-- Laws of pages.
use Rattle.std.specs.Prelude.{◌≡◌, ℕ, Bool, true, List, [], ◌∷◌, ◌++◌, map, Option, None}
use Rattle.std.specs.List.{AllByRecursion}
use Rattle.mad_md.specs.Lines.{LineContent}
use Rattle.mad_format.specs.LineRules.{LineRules}
use Rattle.mad_format.specs.Lists.{EachBecomes}
use Rattle.mad_format.specs.declared.line.FmtLine.{FmtLine}
use Rattle.mad_blocks.specs.Layouts.{IsLayoutAt}
use Rattle.mad_sections.specs.Sections.{SectionContent}
use Rattle.mad_pages.specs.PageLayouts.{IsSectionAt, IsPageAt}
use Rattle.mad_sections.specs.Gutters.{room, shown}
use Rattle.mad_pages.specs.PageRows.{RowContent, behind}

-- rows without gutters and marks: these lines
abbrev pub plain_rows : List FmtLine → List RowContent
plain_rows lines = behind [] 0 [] 0 true lines

-- sections without gutters, none of which may be a list: these texts
abbrev pub plain_sections : List (List LineContent) → List SectionContent
plain_sections texts = map (λ (lines : List LineContent). record { gutters = []; fresh = 0; list = None; marks = []; lines = lines }) texts

-- the rows are lines without gutters, which are the layout of a text
abbrev pub IsPlainAt : LineRules → Option ℕ → List LineContent → List RowContent → Type 0
IsPlainAt rules width text rows = (lines : List FmtLine) × IsLayoutAt rules width text lines × (rows ≡ plain_rows lines)

-- the rows of a page without gutters are those of its sections' texts, one after the other
abbrev pub PlainIsLayout : Type 0
PlainIsLayout = (rules : LineRules) (ascii : Bool) (width : Option ℕ) (texts : List (List LineContent)) (rows : List RowContent)
    → IsPageAt rules ascii width (plain_sections texts) rows → EachBecomes (IsPlainAt rules width) texts rows

-- The lines of a section's rows are a layout of its lines in its room, so they have all that is said of layouts: each line has its characters
-- once, in order, on the fewest rows that the room allows. Each row is behind the gutters that are shown.
pub record AreBehind (rules : LineRules) (ascii : Bool) (width : Option ℕ) (section : SectionContent) (rows : List RowContent) : Type 0 where
  pub layout : IsLayoutAt rules (room ascii width section.gutters) section.lines (map (λ (row : RowContent). row.line) rows)
  pub gutters : AllByRecursion (λ (row : RowContent). row.gutters ≡ shown ascii width section.gutters) rows

-- the rows of each section are so
abbrev pub SectionsAreLayouts : Type 0
SectionsAreLayouts = (rules : LineRules) (ascii : Bool) (width : Option ℕ) (section : SectionContent) (rows : List RowContent)
    → IsSectionAt rules ascii width section rows → AreBehind rules ascii width section rows

-- behind its gutters no row has its first face but a section's first
abbrev pub LaterRowsAreOther : Type 0
LaterRowsAreOther = (rules : LineRules) (ascii : Bool) (width : Option ℕ) (section : SectionContent) (first : RowContent) (others : List RowContent)
    → IsSectionAt rules ascii width section (first ∷ others) → (first.fresh ≡ section.fresh) × AllByRecursion (λ (row : RowContent). row.fresh ≡ 0) others

-- pages join
abbrev pub PagesJoin : Type 0
PagesJoin = (rules : LineRules) (ascii : Bool) (width : Option ℕ) (page more : List SectionContent) (rows others : List RowContent)
    → IsPageAt rules ascii width page rows → IsPageAt rules ascii width more others → IsPageAt rules ascii width (page ++ more) (rows ++ others)
