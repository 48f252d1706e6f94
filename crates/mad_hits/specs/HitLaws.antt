-- Laws of hits: what they change of the rows that they are drawn over.
use Rattle.std.specs.Prelude.{◌≡◌, ℕ, ◌+◌, ◌^◌, ◌<◌, ◌≤◌, true, List, [], ◌∷◌, map, take, drop, Some, None, slice_get}
use Rattle.std.specs.List.{AllByRecursion}
use Rattle.regex.specs.Patterns.{Re}
use Rattle.mad_screen.specs.Glyph.{Glyph}
use Rattle.mad_screen.specs.Painting.{IsWhole, look_of_style}
use Rattle.mad_style.specs.StyledChars.{char_alone, char_style}
use Rattle.mad_style.specs.declared.compound_styles.CompoundStyle.{CompoundStyle}
use Rattle.mad_style.specs.declared.styled_chars.StyledChar.{StyledChar}
use Rattle.mad_draw.specs.Pieces.{AreShownPieces, PennedChar, RowPiece, penned_chars, pieces_columns}
use Rattle.mad_draw.specs.PennedCells.{penned_cells}
use Rattle.mad_format.specs.Indents.{indent}
use Rattle.mad_format.specs.declared.composite.FmtComposite.{FmtComposite}
use Rattle.mad_format.specs.declared.line.FmtLine.{FmtLine}
use Rattle.mad_format.specs.declared.line.FmtLine.TheVariants.{Normal, TableRow}
use Rattle.mad_rows.specs.Rows.{cell_margins, composite_pieces, cell_columns, prefix_pieces, vertical_piece}
use Rattle.mad_rows.specs.declared.row_skin.RowSkin.{RowSkin}
use Rattle.mad_hits.specs.Drawn.{marked_columns}
use Rattle.mad_hits.specs.Hits.{Marked}
use Rattle.mad_hits.specs.FrontHits.{AreLineHits, AreRowsMarked, hits_behind}
use Rattle.mad_page_rows.specs.FaceLaws.{AreFacesShown, IsTypedGutter}
use Rattle.mad_page_rows.specs.ToneLaws.{without_marks}
use Rattle.mad_page_rows.specs.Faces.{behind_pieces, line_skin, page_row_pieces}
use Rattle.mad_pages.specs.Fronts.{FrontContent, front_at, row_behind}
use Rattle.mad_pages.specs.declared.fronts.Front.{Front}
use Rattle.mad_hits.specs.Rooms.{in_room, room_columns}
use Rattle.mad_hits.specs.declared.rooms.RowRoom.{RowRoom}

-- ---- cells

-- a character with the pen of its style
abbrev pub penned : StyledChar → PennedChar
penned c = record { char = char_alone c; pen = look_of_style (char_style c).object_style }

-- the characters of cells, whatever the pens
abbrev pub cell_chars : List Glyph → List (List ℕ)
cell_chars gs = map (λ (g : Glyph). g.chars) gs

-- The cells of a row where a hit is drawn have the same characters as the hit's own cells. So drawing it changes no character.
abbrev pub StandsIn : List RowPiece → Marked → Type 0
StandsIn row hit = cell_chars (take (marked_columns hit) (drop hit.column (penned_cells (penned_chars row)))) ≡ cell_chars (penned_cells (map penned hit.chars))

-- a hit stands in a row, where it is within the row's columns and doesn't begin with a widthless character
abbrev pub StandsWithin : ℕ → List RowPiece → Marked → Type 0
StandsWithin width row hit = hit.column + marked_columns hit ≤ width → IsWhole (map char_alone hit.chars) → StandsIn row hit

-- ---- rows

-- the prefix of a composite takes the columns of its indent
abbrev pub HasIndent : RowSkin → FmtComposite → Type 0
HasIndent skin l = pieces_columns (prefix_pieces skin l.kind) ≡ indent skin.list_items_indentation_mode l.kind

-- a cell takes the columns of its place and of its blanks
pub record IsCountedCell (skin : RowSkin) (cell : FmtComposite) : Type 0 where
  pub indent : HasIndent skin cell
  pub place : pieces_columns (composite_pieces skin None (cell_margins skin) true cell) ≡ cell_columns skin cell

-- The columns of a line are as they are counted: those of its prefix, or in a table those of each cell, and one for a border.
abbrev pub IsCounted : RowSkin → FmtLine → Type 0
IsCounted skin (Normal l) = HasIndent skin l
IsCounted skin (TableRow row) = (pieces_columns (vertical_piece skin ∷ []) ≡ 1) × AllByRecursion (IsCountedCell skin) row.cells.items
IsCounted skin line = Unit {0}

-- what the columns of a row behind a front are counted by: its gutters are as their type promises, and so are the columns of its line
pub record IsCountedRow (skin : RowSkin) (front : FrontContent) (line : FmtLine) : Type 0 where
  pub typed : AllByRecursion IsTypedGutter front.gutters
  pub counts : IsCounted (line_skin skin front) line

-- these hits of a line stand in its row behind a front, which is in a room of so many columns, in this style of hits
abbrev pub StandInRow : RowSkin → CompoundStyle → RowRoom → ℕ → FrontContent → FmtLine → List Marked → Type 0
StandInRow skin style room all front line hits =
    AllByRecursion (StandsWithin room.end (in_room skin room all (page_row_pieces skin (Some (room_columns room)) true (row_behind front line)))) (hits_behind skin style room front hits)

-- ---- laws

-- Marking hits changes no character of any cell of a row: those of its own text and its parts of those that go over a break stand in it, behind
-- what is in front of its line. The row has as many columns as the hits were found for. Its line is shown, as it is without tones.
abbrev pub HitsChangeNoCharacter : Type 0
HitsChangeNoCharacter =
    (skin : RowSkin) (style : CompoundStyle) (room : RowRoom) (all : ℕ) (sought : Re) (lines : List FmtLine) (front : FrontContent) (starts : List ℕ) (row : ℕ) (hits : List Marked) (line : FmtLine) → slice_get lines row ≡ Some line → room.end < 2 ^ 16
    → AreFacesShown skin → IsCountedRow skin front line → AreShownPieces (behind_pieces skin (Some (room_columns room)) true (without_marks (row_behind front line)))
    → AreLineHits skin room sought lines front starts row hits → StandInRow skin style room all front line hits

-- each of the hits that these bytes show stands in its row
abbrev pub RowsStand : (skin : RowSkin) (style : CompoundStyle) (room : RowRoom) (all : ℕ) (sought : Re) (lines : List FmtLine) (fs : List Front) (starts : List ℕ) (y : ℕ) (rows bytes : List ℕ) → AreRowsMarked skin style room sought lines fs starts y rows bytes → Type 0
RowsStand skin style room all sought lines fs starts y [] bytes marked = Unit {0}
RowsStand skin style room all sought lines fs starts y (row ∷ rows) bytes marked =
    ((line : FmtLine) → slice_get lines row ≡ Some line → IsCountedRow skin (front_at fs row) line → AreShownPieces (behind_pieces skin (Some (room_columns room)) true (without_marks (row_behind (front_at fs row) line)))
    → StandInRow skin style room all (front_at fs row) line marked.3.hits)
    × RowsStand skin style room all sought lines fs starts (y + 1) rows marked.1 marked.4

-- So it is with all hits that are drawn over rows.
abbrev pub DrawnHitsStand : Type 0
DrawnHitsStand =
    (skin : RowSkin) (style : CompoundStyle) (room : RowRoom) (all : ℕ) (sought : Re) (lines : List FmtLine) (fs : List Front) (starts : List ℕ) (y : ℕ) (rows bytes : List ℕ) → room.end < 2 ^ 16 → AreFacesShown skin
    → (marked : AreRowsMarked skin style room sought lines fs starts y rows bytes) → RowsStand skin style room all sought lines fs starts y rows bytes marked
