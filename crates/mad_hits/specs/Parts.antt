-- What is drawn once more of a row: of each hit the part that is in it.
use Rattle.std.specs.Prelude.{◌≡◌, ℕ, ◌-◌, nat_lt, ◌||◌, min, max, Bool, List, [], ◌∷◌, count_by, take, slice_get, Some, if◌then◌else◌}
use Rattle.std.specs.List.{flat_map}
use Rattle.regex.specs.Patterns.{Re}
use Rattle.mad_style.specs.declared.styled_chars.StyledChar.{StyledChar}
use Rattle.mad_format.specs.declared.line.FmtLine.{FmtLine}
use Rattle.mad_rows.specs.declared.row_skin.RowSkin.{RowSkin}
use Rattle.mad_patterns.specs.Searches.{composite_text}
use Rattle.mad_hits.specs.Hits.{Marked, PlacedText, marked_at, placed_texts}
use Rattle.mad_hits.specs.Styled.{styled_text}

-- a byte begins a character: it isn't from 128 to 191
abbrev pub begins_char : ℕ → Bool
begins_char b = nat_lt b 128 || nat_lt 191 b

-- how many characters bytes have
abbrev pub char_count : List ℕ → ℕ
char_count bytes = count_by begins_char bytes

-- the part of a hit that is in a text which stands there: its first byte, and the one behind it, from the text's start on
abbrev pub part_of : ℕ × ℕ → ℕ × ℕ → ℕ × ℕ
part_of own hit = (max hit.0 own.0 - own.0, min hit.1 own.1 - own.0)

-- the characters in these bytes of a text that begins in that column, if there are some
abbrev pub marked_bytes : ℕ → List StyledChar → List ℕ → ℕ × ℕ → List Marked
marked_bytes column text bytes part =
    if nat_lt part.0 part.1 then marked_at column text (char_count (take part.1 bytes) - char_count (take part.0 bytes)) (char_count (take part.0 bytes)) ∷ [] else []

-- the parts of hits that are in a composite
abbrev pub text_hits : RowSkin → PlacedText → List Marked
text_hits skin placed = flat_map (λ (hit : ℕ × ℕ). marked_bytes placed.column (styled_text skin placed.text) (composite_text placed.text) (part_of placed.own hit)) placed.hits

-- those in several, in order
abbrev pub texts_hits : RowSkin → List PlacedText → List Marked
texts_hits skin placed = flat_map (text_hits skin) placed

-- What is drawn once more of the row of this index, of `width` columns: in each of its texts the parts of the hits that are in it. In the rows `starts`
-- parts of the text begin.
pub record AreRowHits (skin : RowSkin) (width : ℕ) (sought : Re) (lines : List FmtLine) (starts : List ℕ) (row : ℕ) (hits : List Marked) : Type 0 where
  pub line : FmtLine
  pub is : slice_get lines row ≡ Some line
  pub are : hits ≡ texts_hits skin (placed_texts skin sought width lines starts row line)
