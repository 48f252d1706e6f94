-- Laws of pages that are laid out as lines and fronts.
use Rattle.std.specs.Prelude.{◌≡◌, ℕ, Bool, List, map, Option, Some, slice_get}
use Rattle.mad_format.specs.LineRules.{LineRules}
use Rattle.mad_format.specs.Lists.{EachBecomes}
use Rattle.mad_format.specs.declared.line.FmtLine.{FmtLine}
use Rattle.mad_blocks.specs.Layouts.{IsLayoutAt}
use Rattle.mad_sections.specs.Gutters.{room}
use Rattle.mad_sections.specs.Sections.{SectionContent}
use Rattle.mad_blocks.specs.Tables.{table_rules}
use Rattle.mad_sections.specs.Unfolded.{unfolded}
use Rattle.mad_pages.specs.Fronts.{front_at, row_behind}
use Rattle.mad_pages.specs.PagedPages.{IsPagedAt, sections_in}
use Rattle.mad_pages.specs.declared.paged.PagedPage.{PagedPage}

-- The line of a number is that of the page's row, and behind the front of the same number it is the row.
abbrev pub RowsAreThePage : Type 0
RowsAreThePage = (rules : LineRules) (ascii : Bool) (width : Option ℕ) (groups : List (List SectionContent)) (paged : PagedPage) (is : IsPagedAt rules ascii width groups paged)
    (row : ℕ) (line : FmtLine) → slice_get paged.lines.items row ≡ Some line → slice_get is.rows row ≡ Some (row_behind (front_at paged.fronts.items row) line)

-- the lines of a section that is shown, in its room
abbrev pub IsTextAt : LineRules → Bool → Option ℕ → SectionContent → List FmtLine → Type 0
IsTextAt rules ascii width section lines = IsLayoutAt rules (room ascii width section.gutters) section.lines lines

-- The lines, in which is sought, are the layouts of the sections' texts, one after the other: without gutters, but each in the room behind its own.
abbrev pub LinesAreTheTexts : Type 0
LinesAreTheTexts = (rules : LineRules) (ascii : Bool) (width : Option ℕ) (groups : List (List SectionContent)) (paged : PagedPage) → IsPagedAt rules ascii width groups paged
    → EachBecomes (EachBecomes (IsTextAt rules ascii width)) (map (unfolded (table_rules rules) ascii width) (sections_in groups)) paged.lines.items
