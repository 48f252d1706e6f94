-- Rows beside a scroll bar that has moves of its own: it stays in its column, whatever a terminal shows of the rows.
use Rattle.std.specs.Prelude.{ℕ, ◌+◌, ◌-◌, ◌<◌, nat_lt, List, [], ◌∷◌, Option, Some, None, IfSome, if◌then◌else◌}
use Rattle.std.specs.List.{flat_map}
use Rattle.mad_measure.specs.declared.area.Area.{Area}
use Rattle.mad_draw.specs.BesideBar.{IsBarShown, bar_char, beside_bar, columns_beside}
use Rattle.mad_draw.specs.DrawnRows.{AreRowsShown, rows_bytes}
use Rattle.mad_draw.specs.Panes.{Pane, ShowsEach}
use Rattle.mad_draw.specs.Pieces.{RowPiece, FillsRow, char_piece}
use Rattle.mad_draw.specs.declared.scroll_bars.ScrollBar.{ScrollBar}

-- ---- what is written

-- the columns of an area but its last
abbrev pub but_last_column : Area → Area
but_last_column area = record { left = area.left; top = area.top; width = area.width - 1; height = area.height }

-- its last column
abbrev pub last_column : Area → Area
last_column area = record { left = area.left + (area.width - 1); top = area.top; width = 1; height = area.height }

-- a bar's character, alone in its row
abbrev pub bar_row : ScrollBar → ℕ → List RowPiece
bar_row bar y = char_piece (bar_char bar y) ∷ []

-- all of an area as one pane: each row, and right after it the bar's character, if there is a bar
abbrev pub joined_pane : Option ScrollBar → (ℕ → List RowPiece) → Area → List Pane
joined_pane bar row area = record { area = area; row = beside_bar bar row } ∷ []

-- two panes: the rows in all columns but the last, and in this one the bar
abbrev pub parted_panes : ScrollBar → (ℕ → List RowPiece) → Area → List Pane
parted_panes bar row area = record { area = but_last_column area; row = row } ∷ record { area = last_column area; row = bar_row bar } ∷ []

-- The panes of rows and of the bar beside them. Where there is no bar, or the area has no column for the rows, they are one.
abbrev pub panes_beside : Option ScrollBar → (ℕ → List RowPiece) → Area → List Pane
panes_beside None row area = joined_pane None row area
panes_beside (Some bar) row area = if nat_lt area.width 2 then joined_pane (Some bar) row area else parted_panes bar row area

-- the bytes of panes, one after the other
abbrev pub panes_bytes : List Pane → List ℕ
panes_bytes panes = flat_map (λ (p : Pane). rows_bytes p.row p.area) panes

-- ---- what is shown

-- the rows fill the columns that the bar leaves, and its characters take one
pub record FillBeside (bar : Option ScrollBar) (row : ℕ → List RowPiece) (area : Area) : Type 0 where
  pub column : IfSome bar (IsBarShown area.width)
  pub rows : (y : ℕ) → y < area.height → FillsRow (columns_beside bar area.width) (row y)

-- What a plain terminal does that reads these bytes. The area shows the same cells as where each character of the bar follows its row. But the bar
-- has bytes of its own, which show it in its column whatever was read before them.
pub record AreShownBeside (bar : Option ScrollBar) (row : ℕ → List RowPiece) (area : Area) (bytes : List ℕ) : Type 0 where
  pub whole : AreRowsShown (beside_bar bar row) area bytes
  pub each : ShowsEach (panes_beside bar row area) bytes
