-- Views of Markdown texts: what they are of, what is drawn of them, and what is shown.
use Rattle.std.specs.Prelude.{◌≡◌, ◌≢◌, ℕ, ◌-◌, ◌≤◌, List, drop, length, map, Option, Some, None, IfSome}
use Rattle.std.specs.List.{AllByRecursion}
use Rattle.mad_measure.specs.declared.area.Area.{Area}
use Rattle.mad_style.specs.StyledChars.{styled_char}
use Rattle.mad_style.specs.declared.compound_styles.CompoundStyle.{CompoundStyle}
use Rattle.mad_style.specs.declared.scroll_bars.ScrollBarStyle.{ScrollBarStyle}
use Rattle.mad_term.specs.Trace.{Trace, TookWith}
use Rattle.mad_draw.specs.BarsApart.{AreShownBeside, panes_beside, panes_bytes}
use Rattle.mad_draw.specs.BesideBar.{IsBarShown, bar_beside}
use Rattle.mad_draw.specs.Pieces.{RowPiece}
use Rattle.mad_draw.specs.declared.scroll_bars.ScrollBar.{ScrollBar}
use Rattle.mad_rows.specs.RowStyles.{line_rules}
use Rattle.mad_rows.specs.declared.row_skin.RowSkin.{RowSkin}
use Rattle.mad_sections.specs.Sections.{SectionContent}
use Rattle.mad_pages.specs.PageLayouts.{IsPageAt}
use Rattle.mad_pages.specs.PageRows.{row_content}
use Rattle.mad_pages.specs.declared.page_rows.PageRow.{PageRow}
use Rattle.mad_page_rows.specs.FaceLaws.{AreFacesShown}
use Rattle.mad_page_rows.specs.Faces.{has_ascii_boxes}
use Rattle.mad_page_rows.specs.PageFits.{KeepsRoom, sections_at}
use Rattle.markdown_layout.specs.DrawnMarkdown.{placed_rows}
use Rattle.markdown_layout.specs.KeptPremises.{AreMarksShown, IsTypedSection, KeepPremises}

-- A view: its area, what rows show of its skin, how its bar looks, the sections of its text, the rows of these, and how many of the rows are above the area.
pub record ViewContent : Type 0 where
  pub area : Area
  pub skin : RowSkin
  pub bar : ScrollBarStyle
  pub page : List SectionContent
  pub rows : List PageRow
  pub scroll : ℕ

-- ---- what it is of

-- the columns of its rows: all of its area's but the last
abbrev pub page_columns : Area → ℕ
page_columns area = area.width - 1

-- the rows are those of a page in an area
abbrev pub AreRowsIn : RowSkin → Area → List SectionContent → List PageRow → Type 0
AreRowsIn skin area page rows = IsPageAt (line_rules skin) (has_ascii_boxes skin) (Some (page_columns area)) page (map row_content rows)

-- its rows are those of its page in its area
abbrev pub IsLaidOut : ViewContent → Type 0
IsLaidOut view = AreRowsIn view.skin view.area view.page view.rows

-- It is laid out anew, and shown from its first row on; all else is as here.
pub record IsLaidAnew (here view : ViewContent) : Type 0 where
  pub laid_out : IsLaidOut view
  pub others : view ≡ record here { rows = view.rows; scroll = 0 }

-- In an area of the same width it stays as it is. In one of another width it is laid out anew.
pub record IsResized (area : Area) (old new : ViewContent) : Type 0 where
  pub same : area.width ≡ old.area.width → new ≡ record old { area = area }
  pub other : area.width ≢ old.area.width → IsLaidAnew (record old { area = area }) new

-- ---- what is drawn

-- its bar, if its page has more rows than its area
abbrev pub bar_of : ViewContent → Option ScrollBar
bar_of view = bar_beside view.area view.scroll (length view.rows) view.bar

-- blanks beside an area, in the place of a bar
abbrev pub blank_bar : CompoundStyle → Area → ScrollBar
blank_bar style area = record { style = record { track = styled_char style 32; thumb = styled_char style 32 }; top = area.top; thumb = (0, 0) }

-- a bar, or blanks where there is none
abbrev pub bar_or_blanks : Option ScrollBar → ScrollBar → ScrollBar
bar_or_blanks (Some bar) blanks = bar
bar_or_blanks None blanks = blanks

-- what its area's last column shows: its bar, or blanks in the paragraph's style
abbrev pub last_column_of : ViewContent → ScrollBar
last_column_of view = bar_or_blanks (bar_of view) (blank_bar view.skin.paragraph.compound_style view.area)

-- what its area shows in each row but for the last column: the page's rows from the scroll on, past the last one spaces
abbrev pub rows_of : ViewContent → ℕ → List RowPiece
rows_of view = placed_rows view.skin (page_columns view.area) (drop view.scroll view.rows)

-- what is written of it: its rows, and then its last column
abbrev pub view_bytes : ViewContent → List ℕ
view_bytes view = panes_bytes (panes_beside (Some (last_column_of view)) (rows_of view) view.area)

-- ---- what is shown

-- What a plain terminal shows of it: its rows from the scroll on, and beside them its bar, if it has one. No cell outside its area changes.
abbrev pub IsShown : ViewContent → Trace → Trace → Type 0
IsShown view old new = TookWith old new (AreShownBeside (Some (last_column_of view)) (rows_of view) view.area)

-- its area has four columns, and its bar's characters take one each, if it has a bar
pub record IsShownBeside (view : ViewContent) : Type 0 where
  pub wide : 4 ≤ view.area.width
  pub bar : IfSome (bar_of view) (IsBarShown view.area.width)

-- it is shown where the sections that are shown keep the premises, and the characters of gutters take one column each
abbrev pub ShowsKeptView : ViewContent → Trace → Trace → Type 0
ShowsKeptView view old new =
    IsShownBeside view → AreFacesShown view.skin → AllByRecursion (KeepsRoom view.skin (page_columns view.area)) (sections_at view.skin (page_columns view.area) view.page) → IsShown view old new

-- Of a text that was read it is shown, whatever it says, where each mark of the skin takes a column.
abbrev pub ShowsReadView : ViewContent → Trace → Trace → Type 0
ShowsReadView view old new = IsShownBeside view → KeepPremises view.page → AreMarksShown view.skin → IsShown view old new

-- ---- what its fields keep

-- its rows are those of its page, and its sections are as their types promise
pub record IsSoundView (skin : RowSkin) (area : Area) (page : List SectionContent) (rows : List PageRow) : Type 0 where
  pub laid_out : AreRowsIn skin area page rows
  pub typed : AllByRecursion IsTypedSection page
