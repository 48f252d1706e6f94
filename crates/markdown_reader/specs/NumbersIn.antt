-- Which links the runs of sections belong to, as the code keeps it.
use Rattle.std.specs.Prelude.{ℕ, List, map}
use Rattle.mad_mark_runs.specs.declared.mark_runs.MarkRun.{MarkRun}
use Rattle.mad_link_marks.specs.LinkMarks.{link_marks}
use Rattle.markdown_reader.specs.SectionsSaid.{lines_said}
use Rattle.markdown_reader.specs.declared.mapper.Mapper.{Mapper}
use Rattle.markdown_reader.specs.declared.markdown.Markdown.{Markdown}
use Rattle.markdown_reader.specs.declared.sections.MarkdownSection.{MarkdownSection}

-- the numbers of a section
abbrev pub section_numbers : MarkdownSection → List ℕ
section_numbers s = s.numbers.items

-- of the sections that a mapper has shown so far
abbrev pub numbers_in : Mapper → List (List ℕ)
numbers_in m = map section_numbers m.sections.items

-- of the sections of a text that was read
abbrev pub numbers_said : Markdown → List (List ℕ)
numbers_said markdown = map section_numbers markdown.sections.items

-- the marks of a section's links
abbrev pub section_link_marks : MarkdownSection → List MarkRun
section_link_marks s = link_marks s.numbers.items (lines_said s.lines)

-- of the sections of a text that was read
abbrev pub link_marks_said : Markdown → List (List MarkRun)
link_marks_said markdown = map section_link_marks markdown.sections.items
