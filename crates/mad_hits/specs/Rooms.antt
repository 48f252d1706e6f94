-- The columns that rows of a page have on a screen.
use Rattle.std.specs.Prelude.{ℕ, ◌-◌, ◌++◌, List}
use Rattle.mad_draw.specs.Pieces.{RowPiece}
use Rattle.mad_rows.specs.declared.row_skin.RowSkin.{RowSkin}
use Rattle.mad_page_rows.specs.Faces.{blanks}
use Rattle.mad_hits.specs.declared.rooms.RowRoom.{RowRoom}

-- how many columns a row has
abbrev pub room_columns : RowRoom → ℕ
room_columns room = room.end - room.left

-- a row in its columns, among all of so many: the others are blank
abbrev pub in_room : RowSkin → RowRoom → ℕ → List RowPiece → List RowPiece
in_room skin room all row = blanks skin room.left ++ (row ++ blanks skin (all - room.end))
