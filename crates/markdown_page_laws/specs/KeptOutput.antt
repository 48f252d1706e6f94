-- What is written and drawn of Markdown shows its sections.
use Rattle.std.specs.Prelude.{ℕ, ◌-◌, ◌^◌, ◌<◌, ◌≤◌, List, map, Some, Result}
use Rattle.mad_format.specs.Lists.{EachBecomes}
use Rattle.mad_term.specs.Draws.{DrawsSome}
use Rattle.mad_term.specs.Trace.{Trace, TookWith}
use Rattle.mad_term.specs.declared.errors.Error.{Error}
use Rattle.mad_measure.specs.declared.area.Area.{Area}
use Rattle.mad_draw.specs.DrawnRows.{AreRowsShown}
use Rattle.mad_rows.specs.RowStyles.{line_rules}
use Rattle.mad_pages.specs.PageRows.{RowContent, row_content}
use Rattle.mad_pages.specs.declared.page_rows.PageRow.{PageRow}
use Rattle.mad_page_rows.specs.Faces.{has_ascii_boxes}
use Rattle.mad_dressing.specs.Dressed.{dressed_page}
use Rattle.mad_page_skin.specs.PageSkins.{page_marks, page_row_skin}
use Rattle.mad_page_skin.specs.declared.page_skin.PageSkin.{PageSkin}
use Rattle.markdown_layout.specs.DrawnMarkdown.{placed_rows, area_bytes, DrawsPage, ShowsPage}
use Rattle.markdown_layout.specs.WrittenPages.{dressed_bytes, WritesDressed}
use Rattle.markdown_page_laws.specs.KeptMarkdown.{ShowSource}
use Rattle.markdown_page_laws.specs.KeptPages.{KeepsShown}
use Rattle.markdown_reader.specs.Markdown.{markdown_sections}

-- Rows keep a text of Markdown in its skin: they show it, with the rules below its headings and the marks at its words. What is shown is on the fewest rows that its room allows.
pub record KeepSource (skin : PageSkin) (width : ℕ) (source : List ℕ) (rows : List RowContent) : Type 0 where
  pub shown : ShowSource (page_marks skin) source rows
  pub least : EachBecomes (KeepsShown (line_rules (page_row_skin skin)) (has_ascii_boxes (page_row_skin skin)) width) (dressed_page (page_marks skin) (markdown_sections source)) rows

-- Who writes a text of Markdown at a width of three columns or more writes rows that keep it.
abbrev pub WritingShows : Type 0
WritingShows = (skin : PageSkin) (source : List ℕ) (width : ℕ) (old new : Trace) (r : Result (Unit {0}) Error) → 3 ≤ width → width < 2 ^ 64 - 1
    → WritesDressed skin (Some width) (markdown_sections source) old r new → DrawsSome (KeepSource skin width source) (dressed_bytes skin (Some width)) old r new

-- Who draws one in an area of three columns or more draws the first of such rows.
abbrev pub DrawingShows : Type 0
DrawingShows = (skin : PageSkin) (source : List ℕ) (area : Area) (old new : Trace) (r : Result (Unit {0}) Error) → 3 ≤ area.width → area.width < 2 ^ 64 - 1
    → DrawsPage (page_row_skin skin) (dressed_page (page_marks skin) (markdown_sections source)) area old r new
    → DrawsSome (λ (rows : List PageRow). KeepSource skin area.width source (map row_content rows)) (area_bytes (page_row_skin skin) area) old r new

-- So what a plain terminal shows in the area are the first of such rows.
abbrev pub AreasShow : Type 0
AreasShow = (skin : PageSkin) (source : List ℕ) (area : Area) (old new : Trace) → 3 ≤ area.width → area.width < 2 ^ 64 - 1
    → ShowsPage (page_row_skin skin) (dressed_page (page_marks skin) (markdown_sections source)) area old new
    → (rows : List PageRow) × KeepSource skin area.width source (map row_content rows) × TookWith old new (AreRowsShown (placed_rows (page_row_skin skin) area.width rows) area)
