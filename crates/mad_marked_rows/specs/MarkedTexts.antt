-- A text with marks, all of which is counted that isn't blank: its parts of one mark each, as pieces.
use Rattle.std.specs.Prelude.{◌≡◌, ℕ, suc, ◌+◌, ◌≤◌, ◌==◌, ◌||◌, Bool, List, [], ◌∷◌, ◌++◌, map, encode_utf8, encode_utf8_all, if◌then◌else◌}
use Rattle.std.specs.Char.{is_whitespace}
use Rattle.mad_characters.specs.Columns.{char_columns}
use Rattle.mad_term.specs.Styles.{closing_bytes, opening_bytes}
use Rattle.mad_term.specs.declared.styles.ContentStyle.{ContentStyle}
use Rattle.mad_draw.specs.Pieces.{RowPiece}
use Rattle.mad_mark_runs.specs.Marks.{value_at, blank_value}
use Rattle.mad_mark_runs.specs.declared.mark_runs.MarkRun.{MarkRun}

-- ---- the marks of characters

-- the mark of a character, where so many counted ones are before it
abbrev pub mark_value : List MarkRun → ℕ → ℕ → ℕ
mark_value runs n c = if is_whitespace c then blank_value runs n else value_at runs n

-- how many are before the next one
abbrev pub number_next : ℕ → ℕ → ℕ
number_next n c = if is_whitespace c then n else n + 1

-- a character with its mark
pub record Letter : Type 0 where
  pub value : ℕ
  pub char : ℕ

-- the characters of a text with their marks
abbrev pub letters_of : List MarkRun → ℕ → List ℕ → List Letter
letters_of runs n [] = []
letters_of runs n (c ∷ cs) = record { value = mark_value runs n c; char = c } ∷ letters_of runs (number_next n c) cs

-- ---- parts

-- A character goes on with a part of this value: where that is its own, and where it takes no column, since it then shows in the cell before it.
abbrev pub goes_on : ℕ → ℕ → ℕ → Bool
goes_on value other c = (other == value) || (char_columns c == 0)

-- characters of one mark
pub record LetterPart : Type 0 where
  pub value : ℕ
  pub chars : List ℕ

-- the parts of a text, of which the first has begun
abbrev pub parts_from : LetterPart → List Letter → List LetterPart
parts_from p [] = p ∷ []
parts_from p (c ∷ cs) =
    if goes_on p.value c.value c.char then parts_from (record { value = p.value; chars = p.chars ++ c.char ∷ [] }) cs
    else p ∷ parts_from (record { value = c.value; chars = c.char ∷ [] }) cs

-- a text cut at changes of its marks
abbrev pub parts_of : List Letter → List LetterPart
parts_of [] = []
parts_of (c ∷ cs) = parts_from (record { value = c.value; chars = c.char ∷ [] }) cs

-- a part in the style that its mark makes of another
abbrev pub part_piece : (ℕ → ContentStyle → ContentStyle) → ContentStyle → LetterPart → RowPiece
part_piece paint style p = record { style = paint p.value style; text = encode_utf8_all p.chars }

-- THE DEFINITION: the pieces of a text in a style
abbrev pub text_pieces : (ℕ → ContentStyle → ContentStyle) → List MarkRun → ContentStyle → ℕ → List ℕ → List RowPiece
text_pieces paint runs style n cs = map (part_piece paint style) (parts_of (letters_of runs n cs))

-- ---- as they are written, character by character

-- the value of the part that a character is in
abbrev pub next_value : ℕ → ℕ → ℕ → ℕ
next_value value other c = if goes_on value other c then value else other

-- what is written of the first character of a part
abbrev pub first_char : (ℕ → ContentStyle → ContentStyle) → ContentStyle → ℕ → ℕ → List ℕ
first_char paint style value c = opening_bytes (paint value style) ++ encode_utf8 c

-- what is written of a character, where a part of this value is open
abbrev pub part_char : (ℕ → ContentStyle → ContentStyle) → ContentStyle → ℕ → ℕ → ℕ → List ℕ
part_char paint style value other c = if goes_on value other c then encode_utf8 c else closing_bytes (paint value style) ++ first_char paint style other c

-- The runs say the same of what a cursor can ask behind so many counted characters: of the one before it too, for a blank between them.
abbrev pub SameFrom : List MarkRun → List MarkRun → ℕ → Type 0
SameFrom runs others n = (k : ℕ) → n ≤ suc k → value_at others k ≡ value_at runs k
