-- Sections whose texts terminals count alike.
use Rattle.std.specs.Prelude.{List, map}
use Rattle.std.specs.List.{AllByRecursion}
use Rattle.mad_sections.specs.Sections.{SectionContent}
pub use Rattle.markdown_lines.specs.Steady.{steady_lines, AreSteadyLines}

-- a section, each of whose runs is steady
abbrev pub steady_section : SectionContent → SectionContent
steady_section s = record { gutters = s.gutters; fresh = s.fresh; list = s.list; marks = s.marks; lines = steady_lines s.lines }

-- sections, each of whose runs is steady
abbrev pub steady_sections : List SectionContent → List SectionContent
steady_sections sections = map steady_section sections

-- each run of these sections is steady
unfoldable pub AreSteadySections : List SectionContent → Type 0
AreSteadySections sections = AllByRecursion (λ (s : SectionContent). AreSteadyLines s.lines) sections
