-- What a text that was read says.
use Rattle.std.specs.Prelude.{List, map}
use Rattle.mad_sections.specs.Sections.{SectionContent}
pub use Rattle.markdown_reader.specs.Mapping.{LinkSaid}
pub use Rattle.markdown_reader.specs.SectionsSaid.{link_said, section_said}
use Rattle.markdown_reader.specs.declared.markdown.Markdown.{Markdown}

-- the sections of a text that was read
abbrev pub markdown_says : Markdown → List SectionContent
markdown_says markdown = map section_said markdown.sections.items

-- the links of a text that was read
abbrev pub links_said : Markdown → List LinkSaid
links_said markdown = map link_said markdown.links.items
