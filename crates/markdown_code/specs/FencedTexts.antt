-- A text of Markdown that is one fence around a text of code.
use Rattle.std.specs.Prelude.{◌≡◌, ◌⊎◌, ℕ, true, List, [], ◌∷◌, ◌++◌, drop}
use Rattle.std.specs.List.{list_all}
use Rattle.markdown_blocks.specs.Leaves.{closes_fence}
use Rattle.markdown_blocks.specs.Lines.{text_lines}
use Rattle.markdown_laws.specs.Fences.{BeginsCode, is_inside, trimmed}
use Rattle.markdown_lines.specs.Texts.{behind_mark}
use Rattle.markdown_marks.specs.Remaining.{whole}
use Rattle.markdown_reader.specs.Markdown.{markdown_sections}
use Rattle.markdown_code.specs.CodeTexts.{fence_sections}

-- behind the lines of a fence there is nothing, or one line that closes it
abbrev pub IsEndOfFence : ℕ → ℕ → List (List ℕ) → Type 0
IsEndOfFence sign signs end = (end ≡ []) ⊎ ((last : List ℕ) × (end ≡ last ∷ []) × (closes_fence sign signs (whole last) ≡ true))

-- The Markdown is one fence around the text, and this stands behind the fence: a line that begins code in the first column, then the lines of the text, of
-- which none closes the fence, and then one that does, or nothing.
pub record IsFenceAround (info text markdown : List ℕ) : Type 0 where
  pub first : List ℕ
  pub end : List (List ℕ)
  pub sign : ℕ
  pub signs : ℕ
  pub lines : text_lines (behind_mark markdown) ≡ first ∷ (text_lines text ++ end)
  pub begins : BeginsCode first 0 sign signs first
  pub told : trimmed (drop signs first) ≡ info
  pub inside : list_all (is_inside sign signs) (text_lines text) ≡ true
  pub ends : IsEndOfFence sign signs end

-- what is shown of it is what is shown of the text by itself
abbrev pub FencesShowTheirText : Type 0
FencesShowTheirText = (info text markdown : List ℕ) → IsFenceAround info text markdown → markdown_sections markdown ≡ fence_sections info text
