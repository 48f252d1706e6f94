-- Code between fences.
use Rattle.std.specs.Prelude.{◌≡◌, ℕ, ◌<◌, Bool, true, false, not, List, [], ◌∷◌, ◌++◌, map, drop, replicate, Some}
use Rattle.std.specs.List.{list_all}
use Rattle.markdown_marks.specs.Bytes.{without_blanks}
use Rattle.markdown_marks.specs.Headings.{without_end}
use Rattle.markdown_marks.specs.Marks.{fence_start}
use Rattle.markdown_marks.specs.Remaining.{Remaining, whole, take_columns}
use Rattle.markdown_blocks.specs.Leaves.{closes_fence}
use Rattle.markdown_blocks.specs.Lines.{text_lines}
use Rattle.markdown_leaves.specs.Parts.{BlockContent, block}
use Rattle.markdown_leaves.specs.Told.{parts_of}
use Rattle.markdown_leaves.specs.declared.parts.Kind.TheVariants.{Fenced}

-- A line begins code: after so many spaces, three at most, a fence of so many of this sign. This is the fence and what is behind it.
pub record BeginsCode (line : List ℕ) (indent sign length : ℕ) (fence : List ℕ) : Type 0 where
  pub few : indent < 4
  pub whole : line ≡ replicate indent 32 ++ fence
  pub start : fence_start fence ≡ Some (record { sign = sign; length = length })

-- a line with a space for each column of a tab that was taken in part
abbrev pub text_of : Remaining → List ℕ
text_of line = replicate line.pending 32 ++ line.bytes

-- a line without so many columns of blanks in front, or without all of them if there are fewer
abbrev pub unindented : ℕ → List ℕ → List ℕ
unindented columns line = text_of (take_columns columns (whole line))

-- bytes without the blanks at both ends
abbrev pub trimmed : List ℕ → List ℕ
trimmed bytes = without_end 32 9 (without_blanks bytes)

-- the line leaves code of such a fence open
abbrev pub is_inside : (sign length : ℕ) → List ℕ → Bool
is_inside sign length line = not (closes_fence sign length (whole line))

-- code: what is behind its fence without blanks at both ends, and its lines without the indent of the fence
pub record IsCode (code : BlockContent) (info : List ℕ) (indent : ℕ) (lines : List (List ℕ)) : Type 0 where
  pub kind : code.kind ≡ Fenced
  pub apart : code.apart ≡ false
  pub said : map text_of code.lines ≡ trimmed info ∷ map (unindented indent) lines

-- A fence ends at the first line that closes it. What is between is its text, and what comes after is read as a text of its own.
abbrev pub FenceEndsAtItsEnd : Type 0
FenceEndsAtItsEnd = (text after first last fence : List ℕ) (lines : List (List ℕ)) (indent sign length : ℕ)
    → text_lines text ≡ first ∷ (lines ++ last ∷ text_lines after)
    → BeginsCode first indent sign length fence → list_all (is_inside sign length) lines ≡ true → closes_fence sign length (whole last) ≡ true
    → (code : BlockContent) × IsCode code (drop length fence) indent lines × (parts_of text ≡ block code ∷ parts_of after)

-- A fence that no line closes ends with the text.
abbrev pub FenceEndsWithItsText : Type 0
FenceEndsWithItsText = (text first fence : List ℕ) (lines : List (List ℕ)) (indent sign length : ℕ)
    → text_lines text ≡ first ∷ lines
    → BeginsCode first indent sign length fence → list_all (is_inside sign length) lines ≡ true
    → (code : BlockContent) × IsCode code (drop length fence) indent lines × (parts_of text ≡ block code ∷ [])
