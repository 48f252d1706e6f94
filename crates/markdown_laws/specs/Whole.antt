-- All lines of a text.
use Rattle.std.specs.Prelude.{◌≡◌, ℕ, Bool, true, ◌||◌, ◌⊎◌, ◌==◌, List, [], ◌∷◌, ◌++◌, map}
use Rattle.std.specs.List.{list_all}
use Rattle.markdown_marks.specs.Bytes.{is_blank_byte}
use Rattle.markdown_marks.specs.Remaining.{Remaining}
use Rattle.markdown_blocks.specs.KeptLines.{is_markup}
use Rattle.markdown_blocks.specs.Lines.{text_lines}
use Rattle.markdown_leaves.specs.Parts.{PartContent, begins, ends, block}
use Rattle.markdown_leaves.specs.Told.{parts_of}

-- The line is told as another: without some markup in front, as blanks, signs of quotes and headings, markers and fences, and without some blanks and signs # at
-- its end.
pub record IsToldAs (line one : List ℕ) : Type 0 where
  pub front : List ℕ
  pub back : List ℕ
  pub whole : line ≡ front ++ (one ++ back)
  pub markup : list_all is_markup front ≡ true
  pub closing : list_all (λ b. is_blank_byte b || (b == 35)) back ≡ true

-- The line may be told as none: it has nothing but blanks, digits and signs that markup has, as > * + - . ) # ` ~ and =.
abbrev pub is_left_out : List ℕ → Bool
is_left_out line = list_all (λ b. is_markup b || (b == 61)) line

-- Lines are told as others, one after the other, or left out as blank lines, the ends of fences and the lines under headings are.
abbrev pub AreTold : (lines told : List (List ℕ)) → Type 0
AreTold [] [] = Unit {0}
AreTold [] (one ∷ told) = ⊥
AreTold (line ∷ lines) [] = (is_left_out line ≡ true) × AreTold lines []
AreTold (line ∷ lines) (one ∷ told) = ((is_left_out line ≡ true) × AreTold lines (one ∷ told)) ⊎ (IsToldAs line one × AreTold lines told)

-- the bytes of a rest of a line
abbrev pub bytes_of : Remaining → List ℕ
bytes_of line = line.bytes

-- the lines of all leaves
abbrev pub lines_told : List PartContent → List (List ℕ)
lines_told [] = []
lines_told (begins container apart ∷ parts) = lines_told parts
lines_told (ends ∷ parts) = lines_told parts
lines_told (block leaf ∷ parts) = map bytes_of leaf.lines ++ lines_told parts

-- The parts of a text tell all its lines in their order, each once, but for characters that signs have, in front of it and behind it. That these are signs isn't said
-- here.
abbrev pub PartsTellAllLines : Type 0
PartsTellAllLines = (text : List ℕ) → AreTold (text_lines text) (lines_told (parts_of text))
