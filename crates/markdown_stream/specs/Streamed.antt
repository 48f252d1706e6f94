-- What a text is shown as that comes in pieces: each part by the definitions up to it, and by those that its words name by their shape.
use Rattle.std.specs.Prelude.{ℕ, List, [], ◌∷◌}
use Rattle.mad_sections.specs.Sections.{SectionContent}
use Rattle.markdown_leaves.specs.Parts.{PartContent}
use Rattle.markdown_leaves.specs.Told.{parts_of}
use Rattle.markdown_lines.specs.Links.{Defined}
use Rattle.markdown_definitions.specs.Definitions.{part_defined, nothing_defined}
use Rattle.markdown_reader.specs.Mapping.{LinkSaid, Mapping, nothing_shown, leaves_in, shown_parts}
use Rattle.markdown_stream.specs.Provisional.{part_provided}

-- The definitions so far, and what the parts so far are shown as.
pub record Streamed : Type 0 where
  pub defined : Defined
  pub mapping : Mapping

-- before the first part nothing is defined, and nothing is shown
abbrev pub nothing_streamed : Streamed
nothing_streamed = record { defined = nothing_defined; mapping = nothing_shown }

-- a part is shown by these definitions, html leaf by leaf, and for now by those that its words name by their shape: these lead nowhere
abbrev pub shown_by : Defined → PartContent → Mapping → Streamed
shown_by defined part m = record { defined = defined; mapping = shown_parts (part_provided defined part) (leaves_in part) m }

-- a part comes: its own definitions count too
abbrev pub part_streamed : PartContent → Streamed → Streamed
part_streamed part s = shown_by (part_defined s.defined part) part s.mapping

-- parts come, one after the other
unfoldable pub parts_streamed : List PartContent → Streamed → Streamed
parts_streamed [] s = s
parts_streamed (part ∷ parts) s = parts_streamed parts (part_streamed part s)

-- parts by the same definitions, each also by those that its words name
unfoldable pub parts_provided : Defined → List PartContent → Mapping → Mapping
parts_provided defined [] m = m
parts_provided defined (part ∷ parts) m = parts_provided defined parts (shown_parts (part_provided defined part) (leaves_in part) m)

-- what a text is shown as that comes in pieces
unfoldable pub streamed_sections : List ℕ → List SectionContent
streamed_sections source = (parts_streamed (parts_of source) nothing_streamed).mapping.sections

-- its links
unfoldable pub streamed_links : List ℕ → List LinkSaid
streamed_links source = (parts_streamed (parts_of source) nothing_streamed).mapping.links
