-- What drawing relies on, said of the plain terminal's definition.
use Rattle.std.specs.Prelude.{◌≡◌, ℕ, ◌+◌, ◌^◌, ◌<◌, min, List, [], ◌∷◌, ◌++◌, length, Some, ◌*◌, ◌&&◌, nat_lt, nat_le, if◌then◌else◌}
use Rattle.std.specs.List.{sum_by, AllByRecursion}
use Rattle.std.specs.Str.{chars, IsUtf8}
use Rattle.mad_term.specs.declared.color.Color.{Color}
use Rattle.mad_term.specs.declared.commands.ClearType.TheVariants.{All, FromCursorDown, FromCursorUp, CurrentLine, UntilNewLine}
use Rattle.mad_term.specs.declared.styles.ContentStyle.{ContentStyle}
use Rattle.mad_term.specs.Color.{IsColor}
use Rattle.mad_characters.specs.Columns.{char_columns}
use Rattle.mad_term.specs.Commands.{move_to_bytes, clear_bytes, sgr_bytes}
use Rattle.mad_term.specs.Styles.{foreground_bytes, background_bytes, piece_bytes, IsStyle}
use Rattle.mad_screen.specs.Glyph.{Glyph, Look}
use Rattle.mad_screen.specs.Grid.{Grid, IsGrid, plain_pen, painted, cell_at}
use Rattle.mad_screen.specs.Terminal.{after_bytes, erased, space_of, row_start, row_end, screen_end}
use Rattle.mad_screen.specs.Painting.{cells_of, IsShown, HasColumns, Paints, shown_color, piece_cells}
use Rattle.mad_screen.specs.Drawing.{drawing, PaintRows, ShowsRows, DrawnAs, listed, Strip, strips_bytes, FitsScreen, ShowsStrips}

-- a text after another is read where that one ended
abbrev pub ReadsInTurn : Type 0
ReadsInTurn = (g mid new : Grid) (a b : List ℕ) → after_bytes g a ≡ Some mid → after_bytes mid b ≡ Some new → after_bytes g (a ++ b) ≡ Some new

-- a move on the screen puts the cursor there and changes nothing else
abbrev pub MovesTheCursor : Type 0
MovesTheCursor =
    (g : Grid) (x y : ℕ) → x < g.width → y < g.height → x < 2 ^ 16 → y < 2 ^ 16
    → after_bytes g (move_to_bytes x y) ≡ Some (record g { x = x; y = y })

-- each erasure leaves spaces of the pen's background in its positions, and the cursor where it was
pub record Erases : Type 0 where
  pub all : (g : Grid) → after_bytes g (clear_bytes All) ≡ Some (erased 0 (screen_end g) g)
  pub from_cursor_down : (g : Grid) → after_bytes g (clear_bytes FromCursorDown) ≡ Some (erased (row_start g + g.x) (screen_end g) g)
  pub from_cursor_up : (g : Grid) → after_bytes g (clear_bytes FromCursorUp) ≡ Some (erased 0 (row_start g + min (g.x + 1) g.width) g)
  pub current_line : (g : Grid) → after_bytes g (clear_bytes CurrentLine) ≡ Some (erased (row_start g) (row_end g) g)
  pub until_new_line : (g : Grid) → after_bytes g (clear_bytes UntilNewLine) ≡ Some (erased (row_start g + g.x) (row_end g) g)

-- a color's command gives the pen that color
pub record Colors : Type 0 where
  pub foreground : (g : Grid) (c : Color) → IsColor c → after_bytes g (foreground_bytes c) ≡ Some (record g { pen = record g.pen { fg = shown_color c } })
  pub background : (g : Grid) (c : Color) → IsColor c → after_bytes g (background_bytes c) ≡ Some (record g { pen = record g.pen { bg = shown_color c } })

-- code 0 makes any pen the plain one
abbrev pub ResetsThePen : Type 0
ResetsThePen = (g : Grid) → after_bytes g (sgr_bytes (0 ∷ [])) ≡ Some (record g { pen = plain_pen })

-- characters, wide and joined ones too, show their cells in the pen
abbrev pub ShowsCharacters : Type 0
ShowsCharacters =
    (g : Grid) (text : List ℕ) → IsUtf8 text → IsShown (chars text) → HasColumns g (length (cells_of g.pen (chars text)))
    → after_bytes g text ≡ Some (painted g (cells_of g.pen (chars text)))

-- a text has as many cells as columns
abbrev pub CountsColumns : Type 0
CountsColumns = (pen : Look) (cs : List ℕ) → length (cells_of pen cs) ≡ sum_by char_columns cs

-- what bytes that paint cells do: these cells are from the cursor on, the cursor after them, and the pen is plain again
abbrev pub PaintedIsRead : Type 0
PaintedIsRead =
    (g : Grid) (bytes : List ℕ) (cells : List Glyph) → Paints bytes cells → g.pen ≡ plain_pen → HasColumns g (length cells)
    → after_bytes g bytes ≡ Some (painted g cells)

-- what paints: nothing, a text in the plain pen, a piece in a style, one such text after another
pub record Composes : Type 0 where
  pub nothing : Paints [] []
  pub plain : (text : List ℕ) → IsUtf8 text → IsShown (chars text) → Paints text (cells_of plain_pen (chars text))
  pub piece : (s : ContentStyle) (text : List ℕ) → IsStyle s → IsUtf8 text → IsShown (chars text) → Paints (piece_bytes s text) (piece_cells s text)
  pub both : (s t : List ℕ) (a b : List Glyph) → Paints s a → Paints t b → Paints (s ++ t) (a ++ b)

-- cells from the cursor on are at their positions, and no other position, nor the row, nor the pen has changed
pub record PaintsPositions (g : Grid) (cells : List Glyph) : Type 0 where
  pub positions : ShowsRows g.x g.y (length cells) 1 (listed (cells ∷ [])) g (painted g cells)
  pub column : (painted g cells).x ≡ g.x + length cells
  pub row : (painted g cells).y ≡ g.y
  pub pen : (painted g cells).pen ≡ g.pen

-- painted cells are at their positions alone
abbrev pub ChangesNoOtherPosition : Type 0
ChangesNoOtherPosition = (g : Grid) (cells : List Glyph) → HasColumns g (length cells) → PaintsPositions g cells

-- rows of bytes that paint rows of cells show these in every area that they fit
abbrev pub DrawsRows : Type 0
DrawsRows =
    (left top : ℕ) (texts : List (List ℕ)) (rows : List (List Glyph)) → left < 2 ^ 16 → top + length rows < 2 ^ 32 → PaintRows texts rows
    → DrawnAs left top rows (drawing left top texts)

-- cells side by side at any positions of a screen are shown there, the later ones over those before, and nothing else changes
abbrev pub DrawsStrips : Type 0
DrawsStrips =
    (strips : List Strip) (g : Grid) → IsGrid g → g.pen ≡ plain_pen → AllByRecursion (FitsScreen g) strips
    → (new : Grid) × (after_bytes g (strips_bytes strips) ≡ Some new) × IsGrid new × (new.pen ≡ plain_pen) × ShowsStrips strips g new

-- erased positions are spaces with the pen's background alone, and the others stay; a position is counted along the rows
abbrev pub ErasesPositions : Type 0
ErasesPositions =
    (g : Grid) (from to x y : ℕ) → IsGrid g → x < g.width → y < g.height
    → cell_at (erased from to g) x y
    ≡ (if nat_le from (y * g.width + x) && nat_lt (y * g.width + x) to then space_of g.pen else cell_at g x y)
