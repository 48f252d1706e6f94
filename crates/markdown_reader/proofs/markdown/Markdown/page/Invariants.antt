use Rattle.std.proofs.Common.{◌≡◌, ◌++◌, map, length}
use Rattle.mad_sections.specs.Sections.{section_content}
use Rattle.markdown_reader.specs.MarkdownSays.{markdown_says}
use Rattle.markdown_reader.specs.SectionsLeft.{sections_left}
use Rattle.markdown_reader.proofs.markdown.Markdown.page.Given as goal

abbrev pub invariant-loop-sections : goal.invariant-loop-sections
invariant-loop-sections l = map section_content l.sections.items ++ sections_left l.rest ≡ markdown_says l.self

abbrev pub decreases-loop-sections : goal.decreases-loop-sections
decreases-loop-sections l = length (sections_left l.rest)
