-- What a screen shows after a list was drawn on it.
use Rattle.std.specs.Prelude.{◌≡◌, ℕ, zero, suc, ◌+◌, ◌-◌, ◌<◌, ◌≤◌, nat_le, nat_lt, ◌&&◌, Bool, List, [], ◌∷◌, length, map, Option, Some, None, IfSome, Result, slice_get, slice_index_or, string_bytes, replicate, if◌then◌else◌}
use Rattle.std.specs.List.{AllByRecursion, flat_map, sum_by}
use Rattle.std.specs.Option.{option_or}
use Rattle.std.specs.Str.{chars, IsUtf8}
use Rattle.std.specs.declared.alloc.AllocError.{AllocError}
use Rattle.mad_characters.specs.Columns.{char_columns}
use Rattle.mad_term.specs.Styles.{IsStyle}
use Rattle.mad_screen.specs.Drawing.{IsOutside}
use Rattle.mad_screen.specs.Glyph.{Glyph}
use Rattle.mad_screen.specs.Grid.{Grid, IsGrid, plain_pen, blank, cell_at}
use Rattle.mad_screen.specs.Painting.{IsShown, piece_cells}
use Rattle.mad_screen.specs.Terminal.{after_bytes}
use Rattle.mad_style.specs.StyledChars.{char_style, styled_char}
use Rattle.mad_style.specs.declared.compound_styles.CompoundStyle.{CompoundStyle}
use Rattle.mad_measure.specs.Areas.{IsWithinLimits}
use Rattle.mad_measure.specs.declared.area.Area.{Area}
use Rattle.mad_draw.specs.BesideBar.{IsBarShown, bar_char, char_cell}
use Rattle.mad_draw.specs.DrawnRows.{IsOnScreen}
use Rattle.mad_draw.specs.declared.scroll_bars.ScrollBar.{ScrollBar}
use Rattle.mad_list_rows.specs.States.{ListState}
use Rattle.mad_list_rows.specs.declared.list_rows.ListRow.{ListRow}
use Rattle.mad_list_columns.specs.Bodies.{body_bar}
use Rattle.mad_list_columns.specs.Cells.{DrawnCell}
use Rattle.mad_list_columns.specs.Drawing.{AreDrawn, DrawnRow, Title, cell_style, cell_text, is_selected, list_bytes, selected_background, separated, shown_from, title_text, titles}
use Rattle.mad_list_columns.specs.declared.cells.ListViewCell.{ListViewCell}
use Rattle.mad_list_columns.specs.declared.columns.CellMeasure.{CellMeasure}
use Rattle.mad_list_columns.specs.declared.columns.CellMeasure.TheVariants.{Characters, Columns}
use Rattle.mad_list_columns.specs.declared.columns.ListViewColumn.{ListViewColumn}
use Rattle.mad_list_columns.specs.declared.drawing.ListStyle.{ListStyle}

-- ---- lists that fit their area

-- each character of the text takes one column
pub record TakesOneEach (text : List ℕ) : Type 0 where
  pub utf8 : IsUtf8 text
  pub one : AllByRecursion (λ c. char_columns c ≡ 1) (chars text)

-- the text has no control character, and begins with no widthless one
pub record IsPrintable (text : List ℕ) : Type 0 where
  pub utf8 : IsUtf8 text
  pub shown : IsShown (chars text)

-- a text stays in its place: where its characters are counted, each takes one column
abbrev pub StaysInPlace : CellMeasure → List ℕ → Type 0
StaysInPlace Characters text = TakesOneEach text
StaysInPlace Columns text = IsPrintable text

-- the numbers of the colors of its styles are bytes
pub record IsKnownLook (style : ListStyle) : Type 0 where
  pub title : IsStyle style.title.object_style
  pub table : IsStyle style.table.object_style
  pub track : IsStyle (char_style style.bar.track).object_style
  pub thumb : IsStyle (char_style style.bar.thumb).object_style

-- The titles, and the cells that are drawn, stay in their places. The columns with the lines between fit the area's width. Where there is a
-- bar, its characters take one column.
pub record FitsItsArea {T E F O : Type 0} (style : ListStyle) (columns : List (ListViewColumn E)) (area : Area) (list : ListState T F O) (drawn : List (DrawnRow T E)) : Type 0 where
  pub titles : AllByRecursion (λ c. StaysInPlace c.measure (string_bytes c.title)) columns
  pub cells : AllByRecursion (λ d. AllByRecursion (λ c. StaysInPlace c.column.measure c.shown.text) d.cells) drawn
  pub widths : sum_by (λ c. c.spacing.width) columns + (length columns - 1) ≤ area.width
  pub bar : IfSome (body_bar style.bar area list) (IsBarShown area.width)

-- ---- the cells of a row

-- the cell of a line
abbrev pub line_cell : CompoundStyle → ℕ → Glyph
line_cell table c = char_cell (styled_char table c)

-- the row of titles
abbrev pub title_cells : {E : Type 0} → CompoundStyle → CompoundStyle → List (ListViewColumn E) → List Glyph
title_cells header table columns = separated (line_cell table 0x2502 ∷ []) (map (λ t. piece_cells header.object_style (title_text t)) (titles columns))

-- the rule
abbrev pub rule_cells : {E : Type 0} → CompoundStyle → List (ListViewColumn E) → List Glyph
rule_cells table columns =
    separated (line_cell table 0x253C ∷ []) (map (λ t. separated (line_cell table 0x252C ∷ []) (map (λ w. replicate w (line_cell table 0x2500)) t.widths)) (titles columns))

-- a line between two cells: in the selected row over its background, where the line has none
abbrev pub between_style : CompoundStyle → Bool → CompoundStyle
between_style table selected =
    if selected then record table { object_style = record table.object_style { background_color = option_or table.object_style.background_color (Some selected_background) } } else table

-- a row
abbrev pub row_cells : {E : Type 0} → CompoundStyle → Bool → List (DrawnCell E) → List Glyph
row_cells table selected cells =
    separated (line_cell (between_style table selected) 0x2502 ∷ []) (map (λ c. piece_cells (cell_style selected c.shown.style).object_style (cell_text c)) cells)

-- ---- what a row of the screen shows, by column, and by what was there before

-- cells from a column on
abbrev pub from_column : ℕ → List Glyph → ℕ → Glyph → Glyph
from_column start cells x before = if nat_le start x then slice_index_or cells (x - start) before else before

-- the bar's character in the area's last column, if there is a bar
abbrev pub bar_after : Area → Option ScrollBar → ℕ → ℕ → Glyph → Glyph
bar_after area None r x before = before
bar_after area (Some bar) r x before = from_column (area.left + area.width - 1) (char_cell (bar_char bar r) ∷ []) x before

-- a row of the list from the area's left on; past the last one blanks up to the screen's right edge
abbrev pub row_or_blanks : {T E : Type 0} → CompoundStyle → Area → Option ℕ → Option (DrawnRow T E) → ℕ → Glyph → Glyph
row_or_blanks table area selection None x before = if nat_le area.left x then blank else before
row_or_blanks table area selection (Some drawn) x before = from_column area.left (row_cells table (is_selected selection drawn.row.0) drawn.cells) x before

-- the area's row of this number: the titles, the rule, and then the body's rows, with the bar over them
abbrev pub row_after : {T E F O : Type 0} → ListStyle → List (ListViewColumn E) → Area → ListState T F O → List (DrawnRow T E) → ℕ → ℕ → Glyph → Glyph
row_after style columns area list drawn zero x before = from_column area.left (title_cells style.title style.table columns) x before
row_after style columns area list drawn (suc zero) x before = from_column area.left (rule_cells style.table columns) x before
row_after style columns area list drawn (suc (suc r)) x before =
    bar_after area (body_bar style.bar area list) r x (row_or_blanks style.table area list.selection (slice_get drawn r) x before)

-- what column x of row y of the screen shows
abbrev pub cell_after : {T E F O : Type 0} → ListStyle → List (ListViewColumn E) → Area → ListState T F O → List (DrawnRow T E) → ℕ → ℕ → Glyph → Glyph
cell_after style columns area list drawn x y before =
    if nat_le area.top y && nat_lt y (area.top + area.height) then row_after style columns area list drawn (y - area.top) x before else before

-- ---- outside the area

-- whether row y of the screen is one of the body's, past the last shown row
abbrev pub is_past_last : {T F O : Type 0} → Area → ListState T F O → ℕ → Bool
is_past_last area list y = nat_le (area.top + 2 + length (shown_from list.rows list.scroll)) y && nat_lt y (area.top + area.height)

-- what a cell outside the area shows: right of it, in such a row, a blank in the plain pen; else what it showed before
abbrev pub cell_outside : {T F O : Type 0} → Area → ListState T F O → ℕ → ℕ → Glyph → Glyph
cell_outside area list x y before = if nat_le (area.left + area.width) x && is_past_last area list y then blank else before

-- ---- the whole

-- The area shows the list. Cells outside it change only right of it, in body rows past the last shown row; none where the area ends at the
-- screen's right edge.
pub record ShowsList {T E F O : Type 0} (style : ListStyle) (columns : List (ListViewColumn E)) (area : Area) (list : ListState T F O) (drawn : List (DrawnRow T E)) (old new : Grid) : Type 0 where
  pub width : new.width ≡ old.width
  pub height : new.height ≡ old.height
  pub cells : (x y : ℕ) → x < old.width → cell_at new x y ≡ cell_after style columns area list drawn x y (cell_at old x y)
  pub outside : (x y : ℕ) → x < old.width → IsOutside area.left area.top area.width area.height x y → cell_at new x y ≡ cell_outside area list x y (cell_at old x y)
  pub at_edge : area.left + area.width ≡ old.width → (x y : ℕ) → x < old.width → IsOutside area.left area.top area.width area.height x y → cell_at new x y ≡ cell_at old x y

-- what a plain terminal does that reads these bytes; the pen is plain again
abbrev pub IsListShown : {T E F O : Type 0} → ListStyle → List (ListViewColumn E) → Area → ListState T F O → List (DrawnRow T E) → List ℕ → Type 0
IsListShown style columns area list drawn bytes =
    (g : Grid) → IsOnScreen area g
    → (new : Grid) × (after_bytes g bytes ≡ Some new) × IsGrid new × (new.pen ≡ plain_pen) × ShowsList style columns area list drawn g new

-- whatever code makes a cell of a row
abbrev pub AnyCode : {T E : Type 0} → E → T → Result ListViewCell AllocError → Type 0
AnyCode code row cell = Unit {0}

-- a list that fits its area, drawn there, is shown so, whatever code makes its cells
abbrev pub ListsAreShown : Type 0 → Type 0 → Type 0 → Type 0 → Type 0
ListsAreShown T E F O =
    (style : ListStyle) (columns : List (ListViewColumn E)) (area : Area) (list : ListState T F O) (drawn : List (DrawnRow T E))
    → IsWithinLimits area → IsKnownLook style → AreDrawn AnyCode columns (area.height - 2) list drawn → FitsItsArea style columns area list drawn → IsListShown style columns area list drawn (list_bytes style columns area list drawn)
