-- Which row of a laid out text has a hit.
use Rattle.std.specs.Prelude.{◌≡◌, ◌⊎◌, ℕ, ◌+◌, ◌-◌, ◌<◌, ◌≤◌, nat_le, nat_lt, Bool, true, false, ◌&&◌, List, [], ◌∷◌, drop, length, map, slice_get, slice_index_or, slice_range, Option, Some, None, if◌then◌else◌}
use Rattle.std.specs.List.{filter, flat_map, list_any}
use Rattle.std.specs.Str.{trim_end}
use Rattle.regex.specs.Patterns.{Re, find_all_str, span}
use Rattle.mad_patterns.specs.Breaks.{line_rows, line_start}
use Rattle.mad_patterns.specs.declared.found.FoundLine.{FoundLine}
use Rattle.mad_md.specs.declared.compound.Compound.{Compound}
use Rattle.mad_format.specs.declared.composite.FmtComposite.{FmtComposite}
use Rattle.mad_format.specs.declared.line.FmtLine.{FmtLine}
use Rattle.mad_format.specs.declared.line.FmtLine.TheVariants.{Normal, TableRow}

-- ---- texts

-- the text of a composite
abbrev pub composite_text : FmtComposite → List ℕ
composite_text l = flat_map (λ (k : Compound). k.src.now) l.compounds.items

-- the text of a row; of one of a table, each of whose cells is sought for itself, and of a rule none
abbrev pub line_text : FmtLine → List ℕ
line_text (Normal l) = composite_text l
line_text line = []

-- the same, as it is joined to the row below: without the blanks at its end; it is the last row of its line, or it isn't
abbrev pub row_text : Bool → FmtLine → List ℕ
row_text is_last line = if is_last then line_text line else trim_end (line_text line)

-- those of the rows of a line
abbrev pub row_texts : List FmtLine → List (List ℕ)
row_texts [] = []
row_texts (line ∷ []) = row_text true line ∷ []
row_texts (line ∷ next ∷ rows) = row_text false line ∷ row_texts (next ∷ rows)

-- texts, one after another, with a blank for each break
abbrev pub joined : List (List ℕ) → List ℕ
joined texts = drop 1 (flat_map (λ (text : List ℕ). 32 ∷ text) texts)

-- where each of them stands then, from this place on: its first byte, and the one behind it
abbrev pub places : ℕ → List (List ℕ) → List (ℕ × ℕ)
places at [] = []
places at (text ∷ texts) = (at, at + length text) ∷ places (at + length text + 1) texts

-- ---- hits

-- a match isn't empty
abbrev pub has_bytes : ℕ × ℕ → Bool
has_bytes place = nat_lt place.0 place.1

-- The hits in a text: the matches from the left on that don't overlap, without the empty ones. Each is its first byte, and the one behind it.
abbrev pub hits : Re → List ℕ → List (ℕ × ℕ)
hits sought text = filter has_bytes (map span (find_all_str sought text))

-- those in the text of rows that come of one line
abbrev pub hits_in_rows : Re → List FmtLine → List (ℕ × ℕ)
hits_in_rows sought rows = hits sought (joined (row_texts rows))

-- where the text stands in it of the row that has this number among them
abbrev pub place_in_rows : List FmtLine → ℕ → ℕ × ℕ
place_in_rows rows k = slice_index_or (places 0 (row_texts rows)) k (0, 0)

-- a hit begins in a row whose text stands there; the blank of a break is of the row above it
abbrev pub begins_in : ℕ × ℕ → ℕ × ℕ → Bool
begins_in own hit = nat_le own.0 hit.0 && nat_le hit.0 own.1

-- one begins in the row that has this number among the rows of a line
abbrev pub row_has_hit : Re → List FmtLine → ℕ → Bool
row_has_hit sought rows k = list_any (begins_in (place_in_rows rows k)) (hits_in_rows sought rows)

-- one is in a cell of a table
abbrev pub cell_has_hit : Re → FmtComposite → Bool
cell_has_hit sought cell = nat_lt 0 (length (hits sought (composite_text cell)))

-- the cells of a row of a table; of another line there are none
abbrev pub table_cells : FmtLine → Option (List FmtComposite)
table_cells (TableRow table) = Some table.cells.items
table_cells line = None

-- One begins in this row, which shows this line. In these rows parts of the text begin.
abbrev pub line_has_hit : Re → List FmtLine → List ℕ → ℕ → FmtLine → Bool
line_has_hit sought lines starts row (TableRow table) = list_any (cell_has_hit sought) table.cells.items
line_has_hit sought lines starts row line = row_has_hit sought (line_rows lines starts row) (row - line_start lines starts row)

-- one begins in the row of this index
pub record HasHit (sought : Re) (lines : List FmtLine) (starts : List ℕ) (row : ℕ) : Type 0 where
  pub line : FmtLine
  pub is : slice_get lines row ≡ Some line
  pub has : line_has_hit sought lines starts row line ≡ true

-- ---- rows that are found

-- no row has one from this one on, up to that one
abbrev pub NoneBetween : Re → List FmtLine → List ℕ → ℕ → ℕ → Type 0
NoneBetween sought lines starts from end = (row : ℕ) → from ≤ row → row < end → ¬ HasHit sought lines starts row

-- no row has one from this one on
abbrev pub NoneFrom : Re → List FmtLine → List ℕ → ℕ → Type 0
NoneFrom sought lines starts from = (row : ℕ) → from ≤ row → ¬ HasHit sought lines starts row

-- it is the first row from this one on that has one
pub record IsFirstFrom (sought : Re) (lines : List FmtLine) (starts : List ℕ) (from found : ℕ) : Type 0 where
  pub within : from ≤ found
  pub has : HasHit sought lines starts found
  pub none_before : NoneBetween sought lines starts from found

-- it is the last row before this one that has one
pub record IsLastBefore (sought : Re) (lines : List FmtLine) (starts : List ℕ) (end found : ℕ) : Type 0 where
  pub within : found < end
  pub has : HasHit sought lines starts found
  pub none_after : NoneBetween sought lines starts (found + 1) end

-- The row that has a hit and comes next from this one on, around the text's end, if there is one. Parts of the text begin in these rows.
abbrev pub IsNextRowIn : Re → List FmtLine → List ℕ → ℕ → Option ℕ → Type 0
IsNextRowIn sought lines starts from None = NoneFrom sought lines starts 0
IsNextRowIn sought lines starts from (Some row) =
    IsFirstFrom sought lines starts from row ⊎ (NoneFrom sought lines starts from × IsFirstFrom sought lines starts 0 row)

-- The row that has one and comes next before this one, around the text's start, if there is one.
abbrev pub IsPreviousRowIn : Re → List FmtLine → List ℕ → ℕ → Option ℕ → Type 0
IsPreviousRowIn sought lines starts end None = NoneFrom sought lines starts 0
IsPreviousRowIn sought lines starts end (Some row) =
    IsLastBefore sought lines starts end row ⊎ (NoneBetween sought lines starts 0 end × IsLastBefore sought lines starts (length lines) row)

-- ---- what a search keeps

-- what was found in the rows of a line
pub record IsFoundLine (sought : Re) (lines : List FmtLine) (found : FoundLine) : Type 0 where
  pub places : found.places.items ≡ places 0 (row_texts (slice_range lines found.start found.end))
  pub hits : found.hits.items ≡ hits_in_rows sought (slice_range lines found.start found.end)

-- the same, where it has rows
abbrev pub IsKnown : Re → List FmtLine → FoundLine → Type 0
IsKnown sought lines found = found.start < found.end → IsFoundLine sought lines found
