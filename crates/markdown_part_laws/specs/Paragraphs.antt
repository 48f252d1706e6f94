-- Paragraphs, whatever blanks stand in front of their lines.
use Rattle.std.specs.Prelude.{◌≡◌, ℕ, ◌<◌, Bool, true, false, List, [], ◌∷◌, ◌++◌, map, replicate}
use Rattle.std.specs.List.{slice_split}
use Rattle.markdown_marks.specs.Bytes.{is_blank}
use Rattle.markdown_blocks.specs.Lines.{text_lines}
use Rattle.markdown_leaves.specs.Told.{parts_of}
use Rattle.markdown_laws.specs.Plain.{is_empty, is_special, paragraphs}
use Rattle.markdown_laws.specs.Quotes.{spelled}

-- A line is blanks and then this text. In front of the first line of a paragraph are three spaces at most.
pub record HasText (first : Bool) (line text : List ℕ) : Type 0 where
  pub front : List ℕ
  pub whole : line ≡ front ++ text
  pub blank : is_blank front ≡ true
  pub few : first ≡ true → (indent : ℕ) × (indent < 4) × (front ≡ replicate indent 32)

-- The texts of lines. A blank line has none, and each other has one that begins with no special byte. The line behind a blank one is the first of a paragraph.
abbrev pub HaveTexts : (first : Bool) → (lines texts : List (List ℕ)) → Type 0
HaveTexts first [] [] = Unit {0}
HaveTexts first (line ∷ lines) ([] ∷ texts) = (is_blank line ≡ true) × HaveTexts true lines texts
HaveTexts first (line ∷ lines) ((b ∷ bs) ∷ texts) = (is_special b ≡ false) × HasText first line (b ∷ bs) × HaveTexts false lines texts
HaveTexts first _ _ = ⊥

-- A paragraph is its lines without the blanks in front: those that stand between blank lines.
abbrev pub ParagraphIsItsLines : Type 0
ParagraphIsItsLines = (text : List ℕ) (texts : List (List ℕ)) → HaveTexts true (text_lines text) texts → map spelled (parts_of text) ≡ paragraphs false (slice_split is_empty texts)
