-- The marks of the characters that belong to links, section by section.
use Rattle.std.specs.Prelude.{ℕ, List, [], ◌∷◌}
use Rattle.mad_link_marks.specs.LinkMarks.{link_marks}
use Rattle.mad_mark_runs.specs.declared.mark_runs.MarkRun.{MarkRun}
use Rattle.mad_sections.specs.Sections.{SectionContent}
use Rattle.markdown_lines.specs.Texts.{behind_mark}
use Rattle.markdown_reader.specs.SectionNumbers.{unmarked_numbers}
use Rattle.markdown_reader.specs.Markdown.{unmarked_sections}

-- the marks of sections with links of these numbers
abbrev pub sections_link_marks : List (List ℕ) → List SectionContent → List (List MarkRun)
sections_link_marks (numbers ∷ others) (section ∷ sections) = link_marks numbers section.lines ∷ sections_link_marks others sections
sections_link_marks _ _ = []

-- the marks of the sections of a text behind its byte order mark
abbrev pub unmarked_link_marks : List ℕ → List (List MarkRun)
unmarked_link_marks source = sections_link_marks (unmarked_numbers source) (unmarked_sections source)

-- the marks of the sections of a text
abbrev pub markdown_link_marks : List ℕ → List (List MarkRun)
markdown_link_marks source = unmarked_link_marks (behind_mark source)
