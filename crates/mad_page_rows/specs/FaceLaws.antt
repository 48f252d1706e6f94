-- Laws of the faces of gutters.
use Rattle.std.specs.Prelude.{◌≡◌, ℕ, ◌+◌, ◌-◌, ◌^◌, ◌<◌, ◌≤◌, true, List, [], ◌∷◌, ◌++◌, length, Some, if◌then◌else◌}
use Rattle.std.specs.List.{AllByRecursion}
use Rattle.mad_style.specs.StyledChars.{char_alone}
use Rattle.mad_draw.specs.Pieces.{AreShownPieces, FillsRow, IsColumnChar, penned_chars}
use Rattle.mad_draw.specs.PennedCells.{penned_cells}
use Rattle.mad_rows.specs.RowStyles.{index_suffix}
use Rattle.mad_rows.specs.declared.page_styles.PageStyles.{PageStyles}
use Rattle.mad_rows.specs.declared.row_skin.RowSkin.{RowSkin}
use Rattle.mad_sections.specs.Gutters.{gutter_columns, columns_of}
use Rattle.mad_sections.specs.declared.gutters.Gutter.{Gutter}
use Rattle.mad_sections.specs.declared.gutters.Gutter.TheVariants.{Number, Code}
use Rattle.mad_pages.specs.PageRows.{RowContent}
use Rattle.mad_page_rows.specs.Faces.{has_ascii_boxes, has_boxes, faces, back_columns, backs, behind_pieces, page_row_pieces}

-- the characters that a page shows beside its text take one column each: the boxes of tasks, the bars of alerts, and what is below headings
pub record AreSignsShown (page : PageStyles) : Type 0 where
  pub task : IsColumnChar (char_alone page.task)
  pub done : IsColumnChar (char_alone page.done)
  pub note : IsColumnChar (char_alone page.note)
  pub tip : IsColumnChar (char_alone page.tip)
  pub important : IsColumnChar (char_alone page.important)
  pub warning : IsColumnChar (char_alone page.warning)
  pub caution : IsColumnChar (char_alone page.caution)
  pub below_first : IsColumnChar (char_alone page.below_first)
  pub below_others : IsColumnChar (char_alone page.below_others)

-- the characters of gutters take one column each: the bar, the bullet, what is after a number, and those of a page
pub record AreFacesShown (skin : RowSkin) : Type 0 where
  pub bar : IsColumnChar (char_alone skin.quote_mark)
  pub bullet : IsColumnChar (char_alone skin.bullet)
  pub suffix : IsColumnChar (index_suffix skin 0)
  pub page : AreSignsShown skin.page

-- what the type of a gutter promises: a number is below 2^32
abbrev pub IsTypedGutter : Gutter → Type 0
IsTypedGutter (Number n) = n < 2 ^ 32
IsTypedGutter _ = Unit {0}

-- the columns in front of a row that a gutter takes: of a box one, since the other is behind it
abbrev pub front_columns : RowSkin → Gutter → ℕ
front_columns skin Code = if has_boxes skin then 1 else 2
front_columns skin g = gutter_columns (has_ascii_boxes skin) g

-- the columns in front of a row that these gutters take together
abbrev pub fronts : RowSkin → List Gutter → ℕ
fronts skin [] = 0
fronts skin (g ∷ gs) = front_columns skin g + fronts skin gs

-- The faces of gutters take columns in front of a row, and the sides of boxes some behind it, together exactly the gutters' columns.
pub record AreFacesFull (skin : RowSkin) (gutters : List Gutter) (fresh : ℕ) : Type 0 where
  pub front : FillsRow (fronts skin gutters) (faces skin gutters fresh)
  pub back : FillsRow (back_columns skin gutters) (backs skin gutters)
  pub all : fronts skin gutters + back_columns skin gutters ≡ columns_of (has_ascii_boxes skin) gutters

-- the faces of gutters fill their columns, where each of their characters takes one
abbrev pub FacesFill : Type 0
FacesFill = (skin : RowSkin) (gutters : List Gutter) (fresh : ℕ) → AreFacesShown skin → AllByRecursion IsTypedGutter gutters → AreFacesFull skin gutters fresh

-- So a row fills a width, where its line fills what its gutters leave.
abbrev pub RowsFill : Type 0
RowsFill = (skin : RowSkin) (width : ℕ) (row : RowContent) → AreFacesShown skin → AllByRecursion IsTypedGutter row.gutters → columns_of (has_ascii_boxes skin) row.gutters ≤ width
    → FillsRow (width - columns_of (has_ascii_boxes skin) row.gutters) (behind_pieces skin (Some width) true row)
    → FillsRow width (page_row_pieces skin (Some width) true row)

-- The cells of a row are those of its faces, behind them those of its line alone, at the columns that the gutters leave, and then those of the
-- sides of boxes.
pub record AreCellsBehind (skin : RowSkin) (width : ℕ) (row : RowContent) : Type 0 where
  pub front : length (penned_cells (penned_chars (faces skin row.gutters row.fresh))) ≡ fronts skin row.gutters
  pub cells : penned_cells (penned_chars (page_row_pieces skin (Some width) true row))
      ≡ penned_cells (penned_chars (faces skin row.gutters row.fresh)) ++ (penned_cells (penned_chars (behind_pieces skin (Some width) true row)) ++ penned_cells (penned_chars (backs skin row.gutters)))

-- the cells of a row are so, where its line is shown and each character of its gutters takes one column
abbrev pub CellsAreBehind : Type 0
CellsAreBehind = (skin : RowSkin) (width : ℕ) (row : RowContent) → AreFacesShown skin → AllByRecursion IsTypedGutter row.gutters
    → AreShownPieces (behind_pieces skin (Some width) true row) → AreCellsBehind skin width row
