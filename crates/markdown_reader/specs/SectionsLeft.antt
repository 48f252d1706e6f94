-- The sections in front of a cursor.
use Rattle.std.specs.Prelude.{List, map}
use Rattle.mad_sections.specs.Sections.{SectionContent}
use Rattle.markdown_reader.specs.SectionsSaid.{section_said}
use Rattle.markdown_reader.specs.declared.markdown.Sections.{Sections}

-- the sections that a cursor hasn't passed yet
abbrev pub sections_left : Sections → List SectionContent
sections_left cursor = map section_said cursor.rest.now
