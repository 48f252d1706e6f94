-- A text of code by itself, as the section that a fence around it would be.
use Rattle.std.specs.Prelude.{ℕ, false, List, [], ◌∷◌, map}
use Rattle.markdown_blocks.specs.Lines.{text_lines}
use Rattle.markdown_leaves.specs.Parts.{PartContent, block}
use Rattle.markdown_leaves.specs.declared.parts.Kind.TheVariants.{Fenced}
use Rattle.markdown_lines.specs.Texts.{behind_mark}
use Rattle.markdown_marks.specs.Remaining.{Remaining, whole}
use Rattle.markdown_reader.specs.Markdown.{parts_shown}
use Rattle.markdown_reader.specs.Steady.{steady_sections}
use Rattle.mad_sections.specs.Sections.{SectionContent}
use Rattle.code_words.specs.Words.{language_word}

-- the lines of a fence: what stands behind it, and the lines of a text, with nothing taken of them
abbrev pub fence_lines : List ℕ → List ℕ → List Remaining
fence_lines info text = whole info ∷ map whole (text_lines text)

-- the part of a text that such a fence is
abbrev pub fence_part : List ℕ → List ℕ → PartContent
fence_part info text = block (record { kind = Fenced; apart = false; lines = fence_lines info text })

-- what the reader of Markdown shows of such a fence: one section, or none where the text has no line
unfoldable pub fence_sections : List ℕ → List ℕ → List SectionContent
fence_sections info text = steady_sections (parts_shown (fence_part info text ∷ [])).sections

-- THE DEFINITION: a text of code by itself, in the language of this word, is what a fence of that language shows around it. A byte order mark at its front is none of it.
abbrev pub code_sections : List ℕ → List ℕ → List SectionContent
code_sections word text = fence_sections (language_word word) (behind_mark text)
