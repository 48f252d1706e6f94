-- Rows whose characters have styles of their own, and their hits, in a room of the screen.
use Rattle.std.specs.Prelude.{◌≡◌, ℕ, ◌+◌, List, [], ◌∷◌, ◌++◌, length, map, Option, Some, None}
use Rattle.std.specs.Char.{encode_utf8}
use Rattle.std.specs.List.{flat_map}
use Rattle.regex.specs.Patterns.{Re}
use Rattle.mad_style.specs.StyledChars.{char_alone}
use Rattle.mad_style.specs.declared.compound_styles.CompoundStyle.{CompoundStyle}
use Rattle.mad_style.specs.declared.styled_chars.StyledChar.{StyledChar}
use Rattle.mad_patterns.specs.Searches.{hits}
use Rattle.mad_hits.specs.Drawn.{AreHitsShown, hits_bytes}
use Rattle.mad_hits.specs.FrontHits.{hit_behind}
use Rattle.mad_hits.specs.Hits.{Marked}
use Rattle.mad_hits.specs.Parts.{marked_bytes, part_of}
use Rattle.mad_hits.specs.declared.rooms.RowRoom.{RowRoom}

-- the bytes of a character
abbrev pub char_bytes : StyledChar → List ℕ
char_bytes c = encode_utf8 (char_alone c)

-- the text of a row: its characters without their styles
abbrev pub own_text : List StyledChar → List ℕ
own_text row = flat_map char_bytes row

-- the hits in a row, from its first column on: what is sought is sought in the row for itself
abbrev pub hits_of_row : Re → List StyledChar → List Marked
hits_of_row sought row = flat_map (λ (hit : ℕ × ℕ). marked_bytes 0 row (own_text row) (part_of (0, length (own_text row)) hit)) (hits sought (own_text row))

-- those of what is sought, if anything is
abbrev pub own_hits : Option Re → List StyledChar → List Marked
own_hits None row = []
own_hits (Some sought) row = hits_of_row sought row

-- a row from the first column of the room on
abbrev pub row_in : RowRoom → List StyledChar → Marked
row_in room row = record { column = room.left; chars = row }

-- what is drawn of a row: its characters, and over them its hits, in the style of hits over theirs
abbrev pub drawn_in : CompoundStyle → RowRoom → List StyledChar → List Marked → List Marked
drawn_in style room row hits = row_in room row ∷ map (hit_behind style room.left) hits

-- These bytes are those of a row of such characters in row y of the screen, and of the hits in it of what is sought: they are written in order, and shown.
pub record IsRowDrawn (style : CompoundStyle) (room : RowRoom) (sought : Option Re) (y : ℕ) (row : List StyledChar) (bytes : List ℕ) : Type 0 where
  pub written : bytes ≡ hits_bytes room.end y (drawn_in style room row (own_hits sought row))
  pub shown : AreHitsShown room.end y (drawn_in style room row (own_hits sought row)) bytes

-- these show rows, from row y of the screen on
abbrev pub AreRowsDrawn : CompoundStyle → RowRoom → Option Re → ℕ → List (List StyledChar) → List ℕ → Type 0
AreRowsDrawn style room sought y [] bytes = bytes ≡ []
AreRowsDrawn style room sought y (row ∷ rows) bytes =
    (first : List ℕ) × (others : List ℕ) × (bytes ≡ first ++ others) × IsRowDrawn style room sought y row first × AreRowsDrawn style room sought (y + 1) rows others
