-- The rows of a page keep the characters of its sections.
use Rattle.std.proofs.Common.{ℕ, ◌-◌, ◌^◌, ◌<◌, ◌≤◌, Bool, List, Some, arith}
use Rattle.mad_format.specs.LineRules.{LineRules}
use Rattle.mad_format.proofs.ListLemmas.{become_by}
use Rattle.mad_sections.specs.Gutters.{room_at}
use Rattle.mad_sections.specs.Sections.{SectionContent}
use Rattle.mad_blocks.specs.Tables.{table_rules}
use Rattle.mad_sections.specs.Unfolded.{unfolded}
use Rattle.mad_sections.proofs.RoomLemmas.{rooms_last}
use Rattle.mad_pages.specs.PageLayouts.{IsSectionAt, BecomesAt}
use Rattle.mad_pages.specs.PageRows.{RowContent}
use Rattle.mad_pages.proofs.PageLemmas.{sections_are_layouts}
use Rattle.markdown_page_laws.specs.KeptPages.{lines_of_rows, KeepsSection, KeepsShown, PagesKeep}
use Rattle.markdown_page_laws.proofs.LineLemmas.{layout_keeps}

-- the rows of a section keep it
pub section_keeps : (rules : LineRules) (ascii : Bool) (width : ℕ) → 3 ≤ width → width < 2 ^ 64 - 1 → (section : SectionContent) (rows : List RowContent) → IsSectionAt rules ascii (Some width) section rows
    → KeepsSection rules ascii width section rows
section_keeps rules ascii width wide bound section rows laid =
    let is = sections_are_layouts rules ascii (Some width) section rows laid in
    let room : ℕ = room_at ascii width section.gutters in
    let most : room ≤ width = omega arith in
    record { lines = layout_keeps rules room section.lines (lines_of_rows rows) (rooms_last ascii width section.gutters wide) (omega (arith, most, bound)) is.layout; gutters = is.gutters }

-- so do those of what is shown in its place
pub shown_keeps : (rules : LineRules) (ascii : Bool) (width : ℕ) → 3 ≤ width → width < 2 ^ 64 - 1 → (section : SectionContent) (rows : List RowContent) → BecomesAt rules ascii (Some width) section rows
    → KeepsShown rules ascii width section rows
shown_keeps rules ascii width wide bound section rows laid =
    become_by (IsSectionAt rules ascii (Some width)) (KeepsSection rules ascii width) (section_keeps rules ascii width wide bound) (unfolded (table_rules rules) ascii (Some width) section) rows laid

-- the rows of a page keep its sections
pub pages_keep : PagesKeep
pages_keep rules ascii width page rows wide bound laid = become_by (BecomesAt rules ascii (Some width)) (KeepsShown rules ascii width) (shown_keeps rules ascii width wide bound) page rows laid
