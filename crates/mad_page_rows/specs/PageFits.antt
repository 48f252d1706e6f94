-- How much of a width the rows of a page take.
use Rattle.std.specs.Prelude.{ℕ, ◌-◌, ◌^◌, ◌<◌, ◌≤◌, true, List, Some}
use Rattle.std.specs.List.{AllByRecursion, flat_map}
use Rattle.mad_draw.specs.Pieces.{FillsRow}
use Rattle.mad_rows.specs.RowStyles.{line_rules}
use Rattle.mad_rows.specs.declared.row_skin.RowSkin.{RowSkin}
use Rattle.mad_blocks.specs.TextParts.{lines_in_parts}
use Rattle.mad_layout.specs.Premises.{KeepsPremises}
use Rattle.mad_sections.specs.Gutters.{room_at}
use Rattle.mad_sections.specs.Sections.{SectionContent}
use Rattle.mad_blocks.specs.Tables.{table_rules}
use Rattle.mad_sections.specs.Unfolded.{unfolded}
use Rattle.mad_pages.specs.PageLayouts.{IsSectionAt, IsPageAt}
use Rattle.mad_pages.specs.PageRows.{RowContent}
use Rattle.mad_page_rows.specs.FaceLaws.{AreFacesShown, IsTypedGutter}
use Rattle.mad_page_rows.specs.Faces.{has_ascii_boxes, page_row_pieces}

-- A section keeps the premises at a width: its lines keep those of a text in its room, and types promise what they do of its gutters.
pub record KeepsRoom (skin : RowSkin) (width : ℕ) (section : SectionContent) : Type 0 where
  pub gutters : AllByRecursion IsTypedGutter section.gutters
  pub premises : KeepsPremises skin (room_at (has_ascii_boxes skin) width section.gutters) (lines_in_parts section.lines)

-- rows that each fill the width exactly
abbrev pub AllFill : RowSkin → ℕ → List RowContent → Type 0
AllFill skin width rows = AllByRecursion (λ (row : RowContent). FillsRow width (page_row_pieces skin (Some width) true row)) rows

-- from three columns on each row of a section fills the width
abbrev pub SectionsFill : Type 0
SectionsFill = (skin : RowSkin) (width : ℕ) (section : SectionContent) (rows : List RowContent) → 3 ≤ width → width < 2 ^ 64 - 1 → AreFacesShown skin → KeepsRoom skin width section
    → IsSectionAt (line_rules skin) (has_ascii_boxes skin) (Some width) section rows → AllFill skin width rows

-- the sections of a page that are shown at a width, a table that has no room as a list
abbrev pub sections_at : RowSkin → ℕ → List SectionContent → List SectionContent
sections_at skin width page = flat_map (unfolded (table_rules (line_rules skin)) (has_ascii_boxes skin) (Some width)) page

-- so does each row of a page, where the sections that are shown keep the premises
abbrev pub PagesFill : Type 0
PagesFill = (skin : RowSkin) (width : ℕ) (page : List SectionContent) (rows : List RowContent) → 3 ≤ width → width < 2 ^ 64 - 1 → AreFacesShown skin → AllByRecursion (KeepsRoom skin width) (sections_at skin width page)
    → IsPageAt (line_rules skin) (has_ascii_boxes skin) (Some width) page rows → AllFill skin width rows
