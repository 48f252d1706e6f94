-- The rows of a page keep the characters of its sections.
use Rattle.std.specs.Prelude.{◌≡◌, ℕ, ◌-◌, ◌^◌, ◌<◌, ◌≤◌, Bool, List, map, Some}
use Rattle.std.specs.List.{AllByRecursion}
use Rattle.mad_format.specs.LineRules.{LineRules}
use Rattle.mad_format.specs.Lists.{EachBecomes}
use Rattle.mad_format.specs.declared.line.FmtLine.{FmtLine}
use Rattle.mad_sections.specs.Gutters.{room_at, shown_at}
use Rattle.mad_sections.specs.Sections.{SectionContent}
use Rattle.mad_sections.specs.TableTexts.{columns_count}
use Rattle.mad_blocks.specs.Tables.{table_rules}
use Rattle.mad_sections.specs.Unfolded.{unfolded}
use Rattle.mad_pages.specs.PageLayouts.{IsPageAt}
use Rattle.mad_pages.specs.PageRows.{RowContent}
use Rattle.markdown_page_laws.specs.KeptCharacters.{IsLineKept}

-- the lines of rows, without what stands beside them
abbrev pub lines_of_rows : List RowContent → List FmtLine
lines_of_rows rows = map (λ (row : RowContent). row.line) rows

-- Rows keep a section: they fall into those of its lines, one after the other, which keep these in the room behind its gutters. Each row is behind the gutters
-- that are shown.
pub record KeepsSection (rules : LineRules) (ascii : Bool) (width : ℕ) (section : SectionContent) (rows : List RowContent) : Type 0 where
  pub lines : EachBecomes (IsLineKept rules (room_at ascii width section.gutters) (columns_count section.lines)) section.lines (lines_of_rows rows)
  pub gutters : AllByRecursion (λ (row : RowContent). row.gutters ≡ shown_at ascii width section.gutters) rows

-- so they keep the sections that are shown in the place of one
abbrev pub KeepsShown : LineRules → Bool → ℕ → SectionContent → List RowContent → Type 0
KeepsShown rules ascii width section rows = EachBecomes (KeepsSection rules ascii width) (unfolded (table_rules rules) ascii (Some width) section) rows

-- The rows of each page, from three columns on and at fewer than 2^64 - 1, fall into those of the sections that are shown, one after the other. They keep these.
abbrev pub PagesKeep : Type 0
PagesKeep = (rules : LineRules) (ascii : Bool) (width : ℕ) (page : List SectionContent) (rows : List RowContent) → 3 ≤ width → width < 2 ^ 64 - 1
    → IsPageAt rules ascii (Some width) page rows → EachBecomes (KeepsShown rules ascii width) page rows
