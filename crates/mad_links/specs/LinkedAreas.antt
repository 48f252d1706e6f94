-- Rows of pieces with links in an area of the screen.
use Rattle.std.specs.Prelude.{◌≡◌, ℕ, zero, suc, ◌+◌, ◌*◌, List, [], ◌∷◌, ◌++◌, length, map, slice_get, Option, Some, None}
use Rattle.mad_term.specs.Commands.{move_to_bytes}
use Rattle.std.specs.Borrow.{Bor}
use Rattle.mad_screen.specs.Drawing.{drawing}
use Rattle.mad_screen.specs.Grid.{plain_pen}
use Rattle.mad_measure.specs.declared.area.Area.{Area}
use Rattle.mad_draw.specs.DrawnRows.{IsOnScreen}
use Rattle.mad_draw.specs.Pieces.{RowPiece}
use Rattle.mad_links.specs.Pieces.{piece_of}
use Rattle.mad_links.specs.declared.rows.LinkPiece.{LinkPiece}
use Rattle.mad_links.specs.LinkRows.{LinkedPiece, linked_bytes, row_cells}
use Rattle.mad_links.specs.LinkTerminal.{LinkScreen, IsLinkScreen, ShowsLinkedRows, after_linked}

-- a piece without its link
abbrev pub without_link : LinkedPiece → RowPiece
without_link p = record { style = p.style; text = p.text }

-- a piece that is in no link
abbrev pub in_no_link : RowPiece → LinkedPiece
in_no_link p = record { style = p.style; text = p.text; link = None }

-- several pieces without their links
abbrev pub without_links : List LinkedPiece → List RowPiece
without_links ps = map without_link ps

-- `count` rows from number y on
abbrev pub linked_rows_from : (ℕ → List LinkedPiece) → ℕ → ℕ → List (List LinkedPiece)
linked_rows_from row y zero = []
linked_rows_from row y (suc count) = row y ∷ linked_rows_from row (suc y) count

-- the bytes of an area's rows with their links, each after a move to its position
abbrev pub linked_rows_bytes : (ℕ → List LinkedPiece) → List (Option (List ℕ)) → Area → List ℕ
linked_rows_bytes row addresses area = drawing area.left area.top (map (linked_bytes addresses) (linked_rows_from row 0 area.height))

-- a row of an area after a move to its position
abbrev pub row_part : (ℕ → List LinkedPiece) → List (Option (List ℕ)) → Area → ℕ → List ℕ
row_part row addresses area y = move_to_bytes area.left (area.top + y) ++ linked_bytes addresses (row y)

-- the area is on the screen and has a column, the pen is plain, and no link is open
pub record IsOnLinkScreen (area : Area) (s : LinkScreen) : Type 0 where
  pub shown : IsOnScreen area s.grid
  pub full : length s.links ≡ s.grid.height * s.grid.width
  pub closed : s.current ≡ None

-- What a terminal with links does that reads these bytes. Each row of the area shows the row of its number and leads where its links do, no cell
-- outside the area changes, the pen is plain again, and no link is open.
abbrev pub AreLinkedRowsShown : (ℕ → List LinkedPiece) → List (Option (List ℕ)) → Area → List ℕ → Type 0
AreLinkedRowsShown row addresses area bytes =
    (s : LinkScreen) → IsOnLinkScreen area s
    → (new : LinkScreen) × (after_linked s bytes ≡ Some new) × IsLinkScreen new × (new.grid.pen ≡ plain_pen) × (new.current ≡ None)
    × ShowsLinkedRows area.left area.top area.width area.height (map (row_cells addresses) (linked_rows_from row 0 area.height)) s new

-- the pieces of a row that is given, and none past the last row
abbrev pub given_pieces : Option (Bor (List LinkPiece)) → List LinkPiece
given_pieces None = []
given_pieces (Some row) = row.now

-- that row as the definitions see it
abbrev pub given_row : List (Bor (List LinkPiece)) → ℕ → List LinkedPiece
given_row rows y = map piece_of (given_pieces (slice_get rows y))
