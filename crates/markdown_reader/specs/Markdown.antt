-- The sections of a Markdown text, and its links.
use Rattle.std.specs.Prelude.{ℕ, List, []}
use Rattle.std.specs.List.{flat_map}
use Rattle.markdown_leaves.specs.Parts.{PartContent}
use Rattle.markdown_leaves.specs.Told.{parts_of}
use Rattle.markdown_lines.specs.Texts.{behind_mark}
use Rattle.mad_sections.specs.Sections.{SectionContent}
pub use Rattle.markdown_reader.specs.Steady.{steady_sections, AreSteadySections}
use Rattle.markdown_definitions.specs.Definitions.{definitions_of}
use Rattle.markdown_reader.specs.Mapping.{LinkSaid, Mapping, nothing_shown, leaves_in, shown_parts}

-- what parts are shown as, html leaf by leaf, by all definitions among them
abbrev pub parts_shown : List PartContent → Mapping
parts_shown parts = shown_parts (definitions_of parts) (flat_map leaves_in parts) nothing_shown

-- the section without its marks
abbrev pub without_marks : SectionContent → SectionContent
without_marks s = record s { marks = [] }

-- what a text behind its byte order mark is shown as, each character printable; marks count the characters that are steady
unfoldable pub printable_sections : List ℕ → List SectionContent
printable_sections source = (parts_shown (parts_of source)).sections

-- these sections, each of whose runs is steady
abbrev pub unmarked_sections : List ℕ → List SectionContent
unmarked_sections source = steady_sections (printable_sections source)

-- what a text is shown as
abbrev pub markdown_sections : List ℕ → List SectionContent
markdown_sections source = unmarked_sections (behind_mark source)

-- the links of a text behind its mark, leaf by leaf, and in each in the order of the pieces that make them: the number of a section, and where the link leads
unfoldable pub unmarked_links : List ℕ → List LinkSaid
unmarked_links source = (parts_shown (parts_of source)).links

-- the links of a text
abbrev pub markdown_links : List ℕ → List LinkSaid
markdown_links source = unmarked_links (behind_mark source)
