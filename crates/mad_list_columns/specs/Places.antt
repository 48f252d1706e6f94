-- Texts in the place that a column has for them.
use Rattle.std.specs.Prelude.{◌≡◌, ℕ, ◌-◌, List, [], ◌∷◌, ◌++◌, length, nat_le, chars, encode_utf8_all, replicate, if◌then◌else◌}
use Rattle.std.specs.Str.{IsUtf8}
use Rattle.mad_characters.specs.Columns.{char_columns}
use Rattle.mad_measure.specs.Completions.{left_completion}
use Rattle.mad_measure.specs.TextColumns.{columns}
use Rattle.mad_measure.specs.declared.spacing.Spacing.{Spacing}
use Rattle.mad_draw.specs.SpacedTexts.{spaced_text}
use Rattle.mad_list_columns.specs.declared.columns.CellMeasure.{CellMeasure}
use Rattle.mad_list_columns.specs.declared.columns.CellMeasure.TheVariants.{Characters, Columns}

-- a text that counts as `count` columns in a place, between spaces that fill it
abbrev pub between_spaces : Spacing → List ℕ → ℕ → List ℕ
between_spaces place text count =
    let rest : ℕ = place.width - count in
    let left : ℕ = left_completion place.align rest in
    replicate left 32 ++ (text ++ replicate (rest - left) 32)

-- a text in a place, counted by its characters: a wide one leaves the place
abbrev pub spaced_by_chars : Spacing → List ℕ → List ℕ
spaced_by_chars place text = spaced_text place text (length (chars text))

-- characters from the front, while there is room for their columns
abbrev pub front_within : ℕ → List ℕ → List ℕ
front_within room [] = []
front_within room (c ∷ cs) = if nat_le (char_columns c) room then c ∷ front_within (room - char_columns c) cs else []

-- a text in a place, counted by its columns: the front that the place has room for, between spaces that fill it
abbrev pub spaced_by_columns : Spacing → List ℕ → List ℕ
spaced_by_columns place text =
    let front : List ℕ = front_within place.width (chars text) in between_spaces place (encode_utf8_all front) (columns front)

-- a text in a place, counted so
abbrev pub spaced : CellMeasure → Spacing → List ℕ → List ℕ
spaced Characters place text = spaced_by_chars place text
spaced Columns place text = spaced_by_columns place text

-- a text that is counted by its columns takes as many as its place has
abbrev pub PlacesAreFilled : Type 0
PlacesAreFilled = (place : Spacing) (text : List ℕ) → IsUtf8 text → columns (chars (spaced_by_columns place text)) ≡ place.width
