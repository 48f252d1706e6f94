-- Hits drawn over the rows of an area that begins in the screen's first column and row.
use Rattle.std.specs.Prelude.{◌≡◌, ℕ, ◌+◌, ◌≤◌, nat_le, List, [], ◌∷◌, ◌++◌, map, if◌then◌else◌}
use Rattle.std.specs.List.{flat_map}
use Rattle.mad_measure.specs.TextColumns.{columns}
use Rattle.mad_measure.specs.declared.area.Area.{Area}
use Rattle.mad_style.specs.StyledChars.{char_alone}
use Rattle.mad_draw.specs.DrawnRows.{AreRowsShown, FillArea, rows_bytes}
use Rattle.mad_draw.specs.Pieces.{RowPiece, char_piece}
use Rattle.mad_hits.specs.Hits.{Marked}

-- the columns that a hit takes
abbrev pub marked_columns : Marked → ℕ
marked_columns hit = columns (map char_alone hit.chars)

-- the cells of a hit in a row of the screen
abbrev pub hit_area : ℕ → Marked → Area
hit_area y hit = record { left = hit.column; top = y; width = marked_columns hit; height = 1 }

-- its characters, each a piece
abbrev pub hit_row : Marked → ℕ → List RowPiece
hit_row hit y = map char_piece hit.chars

-- ---- what is written

-- what is written of a hit: its characters after a move, where it is within the row's columns, and else nothing
abbrev pub hit_bytes : ℕ → ℕ → Marked → List ℕ
hit_bytes width y hit = if nat_le (hit.column + marked_columns hit) width then rows_bytes (hit_row hit) (hit_area y hit) else []

-- of hits, one after the other
abbrev pub hits_bytes : ℕ → ℕ → List Marked → List ℕ
hits_bytes width y hits = flat_map (hit_bytes width y) hits

-- ---- what is shown

-- These bytes show a hit in its cells, where they are within the row's columns and each character takes some. They change no other cell.
abbrev pub IsHitShown : ℕ → ℕ → Marked → List ℕ → Type 0
IsHitShown width y hit bytes =
    hit.column + marked_columns hit ≤ width → FillArea (hit_row hit) (hit_area y hit) → AreRowsShown (hit_row hit) (hit_area y hit) bytes

-- the bytes of hits of a row, one after the other
abbrev pub AreHitsShown : ℕ → ℕ → List Marked → List ℕ → Type 0
AreHitsShown width y [] bytes = bytes ≡ []
AreHitsShown width y (hit ∷ hits) bytes =
    (first : List ℕ) × (others : List ℕ) × (bytes ≡ first ++ others) × IsHitShown width y hit first × AreHitsShown width y hits others
