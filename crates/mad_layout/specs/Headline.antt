-- The headline in the subject's own words: the first rows of a text, in the cells of an area.
use Rattle.std.specs.Prelude.{◌≡◌, ℕ, ◌+◌, ◌-◌, ◌<◌, false, List, map, replicate, take, Option, Some, None, IfSome, slice_get, slice_index_or, unwrap_or}
use Rattle.mad_screen.specs.Drawing.{IsOutside}
use Rattle.mad_screen.specs.Grid.{Grid, IsGrid, plain_pen, cell_at, blank}
use Rattle.mad_screen.specs.Terminal.{after_bytes}
use Rattle.mad_term.specs.Trace.{Trace, TookWith}
use Rattle.mad_md.specs.Lines.{LineContent}
use Rattle.mad_md.specs.Reading.{IsRead, unread_text}
use Rattle.mad_measure.specs.declared.area.Area.{Area}
use Rattle.mad_draw.specs.DrawnRows.{IsOnScreen}
use Rattle.mad_draw.specs.PennedCells.{penned_cells}
use Rattle.mad_draw.specs.BesideBar.{bar_char, char_cell, columns_beside}
use Rattle.mad_draw.specs.declared.scroll_bars.ScrollBar.{ScrollBar}
use Rattle.mad_layout.specs.FlaggedTexts.{AreAcross}
use Rattle.mad_layout.specs.Premises.{KeepsPremises}
use Rattle.mad_blocks.specs.TextParts.{lines_in_parts}
use Rattle.mad_rows.specs.declared.row_skin.RowSkin.{RowSkin}

-- the characters that the i-th cell of a row shows: one with those joined to it that take no column, or none in a further column of a wide one
abbrev pub cell_chars : List ℕ → ℕ → List ℕ
cell_chars cs i = (slice_index_or (penned_cells (map (λ c. record { char = c; pen = plain_pen }) cs)) i blank).chars

-- The area shows these rows from the first on, and spaces below the last. Beside a scroll bar they are a column shorter, and the area's last
-- column shows the bar.
pub record ShowsInArea (bar : Option ScrollBar) (across : List (List ℕ)) (area : Area) (g : Grid) : Type 0 where
  pub rows : (i j : ℕ) → i < columns_beside bar area.width → j < area.height
      → (cell_at g (area.left + i) (area.top + j)).chars ≡ cell_chars (unwrap_or (slice_get across j) (replicate (columns_beside bar area.width) 32)) i
  pub last_column : IfSome bar (λ b. (j : ℕ) → j < area.height → cell_at g (area.left + (area.width - 1)) (area.top + j) ≡ char_cell (bar_char b j))

-- The area shows them, and no cell outside it has changed.
pub record ShowsAcross (bar : Option ScrollBar) (across : List (List ℕ)) (area : Area) (old new : Grid) : Type 0 where
  pub width : new.width ≡ old.width
  pub height : new.height ≡ old.height
  pub inside : ShowsInArea bar across area new
  pub outside : (x y : ℕ) → x < old.width → IsOutside area.left area.top area.width area.height x y → cell_at new x y ≡ cell_at old x y

-- a plain terminal that reads these bytes shows them so, and has the plain pen again
abbrev pub AreShownAcross : Option ScrollBar → List (List ℕ) → Area → List ℕ → Type 0
AreShownAcross bar across area bytes =
    (g : Grid) → IsOnScreen area g → (new : Grid) × (after_bytes g bytes ≡ Some new) × IsGrid new × (new.pen ≡ plain_pen) × ShowsAcross bar across area g new

-- What an area shows of a text's lines: where as many of them as the area has rows keep the premises, they have rows, and the area shows
-- the first of these.
pub record ShowsFirstRows (skin : RowSkin) (lines : List LineContent) (area : Area) (old new : Trace) : Type 0 where
  pub shown : KeepsPremises skin (area.width - 1) (take area.height (lines_in_parts lines))
      → (across : List (List ℕ)) × AreAcross skin (area.width - 1) area.width (lines_in_parts lines) across × TookWith old new (AreShownAcross None across area)

-- The headline of a text: what its lines are, and what the area shows of them.
pub record ShowsHeadline (skin : RowSkin) (markdown : List ℕ) (area : Area) (old new : Trace) : Type 0 where
  pub lines : List LineContent
  pub read : IsRead (unread_text false markdown) lines
  pub rows : ShowsFirstRows skin lines area old new
