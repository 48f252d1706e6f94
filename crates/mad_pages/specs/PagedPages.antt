-- Pages that are laid out as lines and fronts.
use Rattle.std.specs.Prelude.{◌≡◌, ℕ, ◌+◌, Bool, List, [], ◌∷◌, ◌++◌, length, map, Option}
use Rattle.std.specs.List.{flat_map}
use Rattle.mad_md.specs.Lines.{LineContent}
use Rattle.mad_format.specs.LineRules.{LineRules}
use Rattle.mad_format.specs.Lists.{EachBecomes}
use Rattle.mad_format.specs.declared.line.FmtLine.{FmtLine}
use Rattle.mad_blocks.specs.Layouts.{IsLayoutAt}
use Rattle.mad_blocks.specs.TextParts.{text_parts}
use Rattle.mad_sections.specs.Gutters.{room}
use Rattle.mad_sections.specs.Sections.{SectionContent}
use Rattle.mad_blocks.specs.Tables.{table_rules}
use Rattle.mad_sections.specs.declared.table_rooms.TableRules.{TableRules}
use Rattle.mad_sections.specs.Unfolded.{unfolded}
use Rattle.mad_pages.specs.PageLayouts.{IsPageAt, IsSectionAt}
use Rattle.mad_pages.specs.PageRows.{RowContent}
use Rattle.mad_pages.specs.Fronts.{front_content, front_of, line_of}
use Rattle.mad_pages.specs.declared.paged.PagedPage.{PagedPage}

-- ---- where each begins

-- Rows from one on are those of these, in order, each as P says, and these numbers are those of the rows behind each.
abbrev pub EndIn : {A R : Type 0} → (A → List R → Type 0) → List A → ℕ → List R → List ℕ → Type 0
EndIn P [] row rows ends = (rows ≡ []) × (ends ≡ [])
EndIn {A} {R} P (x ∷ xs) row rows ends =
    (own : List R) × (others : List R) × (more : List ℕ) × (rows ≡ own ++ others) × P x own × (ends ≡ (row + length own) ∷ more) × EndIn P xs (row + length own) others more

-- Rows are those of these, in order, each as P says, and these are the numbers of the rows in which they begin; last the count of all rows.
abbrev pub BeginIn : {A R : Type 0} → (A → List R → Type 0) → List A → List R → List ℕ → Type 0
BeginIn P xs rows starts = (ends : List ℕ) × (starts ≡ 0 ∷ ends) × EndIn P xs 0 rows ends

-- ---- parts of sections

-- a part of a section that is shown, and the room that the section has, if there is a width
pub record PlacedPart : Type 0 where
  pub room : Option ℕ
  pub lines : List LineContent

-- the parts of lines in a room
abbrev pub parts_in : Option ℕ → List LineContent → List PlacedPart
parts_in room lines = map (λ (part : List LineContent). record { room = room; lines = part }) (text_parts lines)

-- the parts of sections that are shown
abbrev pub parts_shown : Bool → Option ℕ → List SectionContent → List PlacedPart
parts_shown ascii width shown = flat_map (λ (section : SectionContent). parts_in (room ascii width section.gutters) section.lines) shown

-- the parts of what is shown of a page
abbrev pub page_parts : TableRules → Bool → Option ℕ → List SectionContent → List PlacedPart
page_parts rules ascii width page = flat_map (λ (section : SectionContent). parts_shown ascii width (unfolded rules ascii width section)) page

-- lines are the layout of a part in its room
abbrev pub IsPartAt : LineRules → PlacedPart → List FmtLine → Type 0
IsPartAt rules part lines = IsLayoutAt rules part.room part.lines lines

-- ---- pages

-- the sections of groups, in order
abbrev pub sections_in : List (List SectionContent) → List SectionContent
sections_in groups = flat_map (λ (group : List SectionContent). group) groups

-- It is a page at a width, if there is one: its fronts with its lines are the rows of the page. Its sections come in groups, as one with the rule
-- below it. Its starts are where the groups begin, and its parts where the parts do of what is shown.
pub record IsPagedAt (rules : LineRules) (ascii : Bool) (width : Option ℕ) (groups : List (List SectionContent)) (paged : PagedPage) : Type 0 where
  pub rows : List RowContent
  pub groups_begin : BeginIn (IsPageAt rules ascii width) groups rows paged.starts.items
  pub parts : BeginIn (IsPartAt rules) (page_parts (table_rules rules) ascii width (sections_in groups)) paged.lines.items paged.parts.items
  pub lines : paged.lines.items ≡ map line_of rows
  pub fronts : map front_content paged.fronts.items ≡ map front_of rows

-- Behind lines and the starts of their parts are those of a text at a width, if there is one.
pub record ArePartsAdded (rules : LineRules) (width : Option ℕ) (text : List LineContent) (old_lines : List FmtLine) (old_starts : List ℕ) (new_lines : List FmtLine) (new_starts : List ℕ) : Type 0 where
  pub own : List FmtLine
  pub ends : List ℕ
  pub lines : new_lines ≡ old_lines ++ own
  pub starts : new_starts ≡ old_starts ++ ends
  pub layout : IsLayoutAt rules width text own
  pub end : EndIn (IsPartAt rules) (parts_in width text) (length old_lines) own ends

-- Behind what there was of a page is what is shown of sections; starts of sections apart.
pub record AreAdded (rules : LineRules) (ascii : Bool) (width : Option ℕ) (shown : List SectionContent) (old new : PagedPage) : Type 0 where
  pub own : List RowContent
  pub ends : List ℕ
  pub are : EachBecomes (IsSectionAt rules ascii width) shown own
  pub lines : new.lines.items ≡ old.lines.items ++ map line_of own
  pub fronts : map front_content new.fronts.items ≡ map front_content old.fronts.items ++ map front_of own
  pub parts : new.parts.items ≡ old.parts.items ++ ends
  pub end : EndIn (IsPartAt rules) (parts_shown ascii width shown) (length old.lines.items) (map line_of own) ends
