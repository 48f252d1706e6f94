-- Rows of a page in an area, each a line behind the front of the same number.
use Rattle.std.specs.Prelude.{ℕ, true, List, Option, Some, None, slice_get}
use Rattle.mad_format.specs.declared.line.FmtLine.{FmtLine}
use Rattle.mad_draw.specs.Pieces.{RowPiece}
use Rattle.mad_rows.specs.declared.row_skin.RowSkin.{RowSkin}
use Rattle.mad_page_rows.specs.Faces.{blanks, page_row_pieces}
use Rattle.mad_pages.specs.Fronts.{FrontContent, front_at, row_behind}
use Rattle.mad_pages.specs.declared.fronts.Front.{Front}
use Rattle.mad_hits.specs.Rooms.{in_room, room_columns}
use Rattle.mad_hits.specs.declared.rooms.RowRoom.{RowRoom}

-- what a place of `width` columns shows of a line behind a front, if there is a line; else spaces in the paragraph's style
abbrev pub row_shown : RowSkin → ℕ → FrontContent → Option FmtLine → List RowPiece
row_shown skin width front (Some line) = page_row_pieces skin (Some width) true (row_behind front line)
row_shown skin width front None = blanks skin width

-- what row y of an area of so many columns shows, which begins with these lines and fronts: a row in its room
abbrev pub page_row : RowSkin → RowRoom → ℕ → List FmtLine → List Front → ℕ → List RowPiece
page_row skin room all lines fronts y = in_room skin room all (row_shown skin (room_columns room) (front_at fronts y) (slice_get lines y))
