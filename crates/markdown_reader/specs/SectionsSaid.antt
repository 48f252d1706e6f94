-- What sections and links say, whatever the places of their texts.
use Rattle.std.specs.Prelude.{List, [], ◌∷◌, Option, Some, None, option_map, string_bytes}
use Rattle.mad_md.specs.Lines.{LineContent}
use Rattle.mad_md.specs.declared.composite.CompositeStyle.TheVariants.{Paragraph}
use Rattle.mad_sections.specs.Sections.{SectionContent}
use Rattle.markdown_lines.specs.Restyled.{empty_line}
use Rattle.markdown_lines.specs.Shown.{shown}
use Rattle.markdown_lines.specs.declared.lines.Lines.{Lines}
use Rattle.markdown_reader.specs.Mapping.{LinkSaid}
use Rattle.markdown_reader.specs.declared.sections.Link.{Link}
use Rattle.markdown_reader.specs.declared.sections.MarkdownSection.{MarkdownSection}

-- one row without text where there are no lines
abbrev pub lines_said : Option Lines → List LineContent
lines_said None = empty_line Paragraph ∷ []
lines_said (Some lines) = shown lines

-- what a section says
abbrev pub section_said : MarkdownSection → SectionContent
section_said s = record { gutters = s.gutters.items; fresh = s.fresh; list = option_map (λ gs. gs.items) s.list; marks = s.marks.items; lines = lines_said s.lines }

-- what a link says
abbrev pub link_said : Link → LinkSaid
link_said link = record { section = link.section; address = string_bytes link.address }
