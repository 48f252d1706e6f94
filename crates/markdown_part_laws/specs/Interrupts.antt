-- Headings and fences, which end a paragraph without a blank line.
use Rattle.std.specs.Prelude.{◌≡◌, ℕ, ◌<◌, Bool, true, false, ◌||◌, List, [], ◌∷◌, ◌++◌, map, replicate, is_some}
use Rattle.markdown_marks.specs.Marks.{fence_start, heading_level}
use Rattle.markdown_blocks.specs.Lines.{text_lines}
use Rattle.markdown_leaves.specs.Told.{parts_of}
use Rattle.markdown_laws.specs.Plain.{is_special, paragraph}
use Rattle.markdown_laws.specs.Quotes.{spelled}
use Rattle.markdown_part_laws.specs.Paragraphs.{HasText}

-- as many lines of one paragraph as texts, none of them blank
abbrev pub AreWords : (first : Bool) → (lines texts : List (List ℕ)) → Type 0
AreWords first [] [] = Unit {0}
AreWords first (line ∷ lines) ((b ∷ bs) ∷ texts) = (is_special b ≡ false) × HasText first line (b ∷ bs) × AreWords false lines texts
AreWords first _ _ = ⊥

-- A line begins a heading or code between fences: behind three spaces at most.
pub record BeginsMark (line : List ℕ) : Type 0 where
  pub indent : ℕ
  pub few : indent < 4
  pub bytes : List ℕ
  pub whole : line ≡ replicate indent 32 ++ bytes
  pub mark : (is_some (heading_level bytes) || is_some (fence_start bytes)) ≡ true

-- A heading or code between fences ends a paragraph without a blank line. It and what comes after are read as a text of their own.
abbrev pub ParagraphEndsAtMark : Type 0
ParagraphEndsAtMark = (text after first one mark : List ℕ) (lines texts others : List (List ℕ)) → text_lines text ≡ first ∷ (lines ++ text_lines after)
    → AreWords true (first ∷ lines) (one ∷ texts) → text_lines after ≡ mark ∷ others → BeginsMark mark
    → map spelled (parts_of text) ≡ paragraph false (one ∷ texts) ∷ map spelled (parts_of after)
