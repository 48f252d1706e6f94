-- What an area shows of lines that were drawn in it.
use Rattle.std.specs.Prelude.{ℕ, List, drop, length, slice_get, take, Bool, Option, None, if◌then◌else◌}
use Rattle.mad_measure.specs.declared.area.Area.{Area}
use Rattle.mad_draw.specs.DrawnRows.{rows_bytes, AreRowsShown}
use Rattle.mad_draw.specs.Pieces.{RowPiece}
use Rattle.mad_draw.specs.BesideBar.{bar_beside, beside_bar, columns_beside}
use Rattle.mad_draw.specs.declared.scroll_bars.ScrollBar.{ScrollBar}
use Rattle.mad_rows.specs.Rows.{row_pieces}
use Rattle.mad_rows.specs.declared.row_skin.RowSkin.{RowSkin}
use Rattle.mad_format.specs.declared.line.FmtLine.{FmtLine}
use Rattle.mad_layout.specs.declared.fmt_text.FmtText.{FmtText}

-- the pieces of row y: those of line `scroll + y` in a row of `width` columns; past the last line those of a blank row
abbrev pub text_row : RowSkin → ℕ → List FmtLine → ℕ → ℕ → List RowPiece
text_row skin width lines scroll y = row_pieces skin width (slice_get (drop scroll lines) y)

-- the bar beside an area that shows a text from line `scroll` on, where one is asked for
abbrev pub text_bar : Bool → FmtText → Area → ℕ → Option ScrollBar
text_bar asked text area scroll = if asked then bar_beside area scroll (length text.lines.items) text.skin.now.scrollbar else None

-- the pieces of row y of an area: those of its line in the columns that the bar leaves, if there is one, and then the bar's
abbrev pub area_row : RowSkin → Option ScrollBar → List FmtLine → Area → ℕ → ℕ → List RowPiece
area_row skin bar lines area scroll = beside_bar bar (text_row skin (columns_beside bar area.width) lines scroll)

-- the bytes of an area: each of its rows after a move, the first one being that of the line `scroll`
abbrev pub area_bytes : RowSkin → Option ScrollBar → List FmtLine → Area → ℕ → List ℕ
area_bytes skin bar lines area scroll = rows_bytes (area_row skin bar lines area scroll) area

-- the lines that an area shows: from `scroll` on, as many as it has rows
abbrev pub lines_shown : List FmtLine → Area → ℕ → List FmtLine
lines_shown lines area scroll = take area.height (drop scroll lines)

-- What a plain terminal does that reads these bytes: it shows the lines from `scroll` on in the area, and blank rows past the last
-- line, beside the bar, if there is one; it changes no cell outside the area, and has the plain pen again.
abbrev pub AreShownIn : RowSkin → Option ScrollBar → List FmtLine → Area → ℕ → List ℕ → Type 0
AreShownIn skin bar lines area scroll = AreRowsShown (area_row skin bar lines area scroll) area
