-- What is drawn of a page in an area, and what the area shows.
use Rattle.std.specs.Prelude.{ℕ, List, Some, Result, map, slice_get}
use Rattle.std.specs.List.{AllByRecursion}
use Rattle.mad_term.specs.Draws.{DrawsSome}
use Rattle.mad_term.specs.Trace.{Trace, TookWith}
use Rattle.mad_term.specs.declared.errors.Error.{Error}
use Rattle.mad_measure.specs.declared.area.Area.{Area}
use Rattle.mad_draw.specs.DrawnRows as drawn
use Rattle.mad_draw.specs.DrawnRows.{AreRowsShown}
use Rattle.mad_draw.specs.Pieces.{RowPiece}
use Rattle.mad_rows.specs.RowStyles.{line_rules}
use Rattle.mad_rows.specs.declared.row_skin.RowSkin.{RowSkin}
use Rattle.mad_sections.specs.Sections.{SectionContent}
use Rattle.mad_pages.specs.PageLayouts.{IsPageAt}
use Rattle.mad_pages.specs.PageRows.{row_content}
use Rattle.mad_pages.specs.declared.page_rows.PageRow.{PageRow}
use Rattle.mad_page_rows.specs.AreaRows.{row_shown}
use Rattle.mad_page_rows.specs.FaceLaws.{AreFacesShown}
use Rattle.mad_page_rows.specs.Faces.{has_ascii_boxes}
use Rattle.mad_page_rows.specs.PageFits.{KeepsRoom, sections_at}
use Rattle.markdown_layout.specs.KeptPremises.{AreMarksShown}

-- the rows of a page in a place of so many columns, each by its number; past the last one spaces
abbrev pub placed_rows : RowSkin → ℕ → List PageRow → ℕ → List RowPiece
placed_rows skin width rows y = row_shown skin width (slice_get rows y)

-- the rows are those of a page of these sections, as wide as an area
abbrev pub ArePageOf : RowSkin → Area → List SectionContent → List PageRow → Type 0
ArePageOf skin area page rows = IsPageAt (line_rules skin) (has_ascii_boxes skin) (Some area.width) page (map row_content rows)

-- what is written of a page's rows in an area: the first ones, as many as the area has
abbrev pub area_bytes : RowSkin → Area → List PageRow → List ℕ
area_bytes skin area rows = drawn.rows_bytes (placed_rows skin area.width rows) area

-- What a call does that draws these sections in an area: it draws the first rows of a page of them, as wide as the area; or memory for the rows was refused, and
-- nothing went out.
abbrev pub DrawsPage : {T : Type 0} → RowSkin → List SectionContent → Area → Trace → Result T Error → Trace → Type 0
DrawsPage skin page area old r new = DrawsSome (ArePageOf skin area page) (area_bytes skin area) old r new

-- What an area shows of these sections, to a plain terminal that reads what was written: the first rows of a page of them, as wide as the area, and below the last
-- one spaces. No cell outside the area changes.
abbrev pub ShowsPage : RowSkin → List SectionContent → Area → Trace → Trace → Type 0
ShowsPage skin page area old new =
    (rows : List PageRow) × ArePageOf skin area page rows × TookWith old new (AreRowsShown (placed_rows skin area.width rows) area)

-- it shows them where the sections that are shown keep the premises, and the characters of gutters take one column each
abbrev pub ShowsKept : RowSkin → List SectionContent → Area → Trace → Trace → Type 0
ShowsKept skin page area old new = AreFacesShown skin → AllByRecursion (KeepsRoom skin area.width) (sections_at skin area.width page) → ShowsPage skin page area old new

-- it shows them, whatever the text says, where each mark of the skin takes a column
abbrev pub ShowsMarkdown : RowSkin → List SectionContent → Area → Trace → Trace → Type 0
ShowsMarkdown skin page area old new = AreMarksShown skin → ShowsPage skin page area old new
