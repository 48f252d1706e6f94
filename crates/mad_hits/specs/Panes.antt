-- Rows of a page beside a scroll bar.
use Rattle.std.specs.Prelude.{ℕ, List, drop, Option}
use Rattle.mad_measure.specs.declared.area.Area.{Area}
use Rattle.mad_draw.specs.BarsApart.{AreShownBeside, FillBeside, panes_beside, panes_bytes}
use Rattle.mad_draw.specs.BesideBar.{columns_beside}
use Rattle.mad_draw.specs.Pieces.{RowPiece}
use Rattle.mad_draw.specs.declared.scroll_bars.ScrollBar.{ScrollBar}
use Rattle.mad_format.specs.declared.line.FmtLine.{FmtLine}
use Rattle.mad_rows.specs.declared.row_skin.RowSkin.{RowSkin}
use Rattle.mad_pages.specs.declared.fronts.Front.{Front}
use Rattle.mad_hits.specs.FrontRows.{page_row}
use Rattle.mad_hits.specs.declared.rooms.RowRoom.{RowRoom}

-- so many columns and rows of the screen, from its first on
abbrev pub whole_area : ℕ → ℕ → Area
whole_area width height = record { left = 0; top = 0; width = width; height = height }

-- the rows of a page from one on, each in its room of the columns that a bar leaves, if there is one
abbrev pub page_rows : RowSkin → Option ScrollBar → List FmtLine → List Front → ℕ → RowRoom → ℕ → ℕ → List RowPiece
page_rows skin bar lines fronts top room width = page_row skin room (columns_beside bar width) (drop top lines) (drop top fronts)

-- what is written of them in an area, and of the bar beside it
abbrev pub page_rows_bytes : RowSkin → Option ScrollBar → List FmtLine → List Front → ℕ → RowRoom → ℕ → ℕ → List ℕ
page_rows_bytes skin bar lines fronts top room width height = panes_bytes (panes_beside bar (page_rows skin bar lines fronts top room width) (whole_area width height))

-- These bytes show the rows in an area, and beside them the bar, where each row fills its columns. They change no other cell.
abbrev pub ArePageRowsDrawn : RowSkin → Option ScrollBar → List FmtLine → List Front → ℕ → RowRoom → ℕ → ℕ → List ℕ → Type 0
ArePageRowsDrawn skin bar lines fronts top room width height bytes =
    FillBeside bar (page_rows skin bar lines fronts top room width) (whole_area width height) → AreShownBeside bar (page_rows skin bar lines fronts top room width) (whole_area width height) bytes
