-- What a text of Markdown as people write it shows that has come so far.
use Rattle.std.specs.Prelude.{◌≡◌, ℕ, List, ◌++◌}
use Rattle.mad_md.specs.Parts.{HasNoNewline}
use Rattle.mad_sections.specs.Sections.{SectionContent}
use Rattle.markdown_blocks.specs.Lines.{text_lines}
use Rattle.markdown_live.specs.ShownLines.{shown_line}
use Rattle.markdown_reader.specs.Steady.{steady_sections}
use Rattle.markdown_stream.specs.Come.{lines_streamed}
use Rattle.markdown_stream.specs.OpenSections.{after_lines, open_sections}
use Rattle.markdown_stream.specs.Streaming.{Streaming}

-- What is growing: what is open shows, if the text ends with what is shown of the line that has begun.
abbrev pub growing_sections : List ℕ → Streaming → List SectionContent
growing_sections begun s = steady_sections (open_sections (shown_line s.reading.gathering.kind begun) s)

-- A text has come so far: whole lines, and a line that has begun. The lines complete these sections, and what is growing shows those.
pub record ShowsSoFar (text : List ℕ) (complete growing : List SectionContent) : Type 0 where
  pub lines : List (List ℕ)
  pub begun : List ℕ
  pub joins : (later : List ℕ) → text_lines (text ++ later) ≡ lines ++ text_lines (begun ++ later)
  pub line : HasNoNewline begun
  pub complete_are : complete ≡ steady_sections (lines_streamed lines).mapping.sections
  pub growing_are : growing ≡ growing_sections begun (after_lines lines)
