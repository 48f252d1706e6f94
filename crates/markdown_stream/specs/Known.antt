-- When a text that comes in pieces is shown as the whole: where no part says something else by all definitions.
use Rattle.std.specs.Prelude.{◌≡◌, Bool, true, false, not, List, [], ◌∷◌}
use Rattle.markdown_leaves.specs.Parts.{PartContent, block}
use Rattle.markdown_leaves.specs.declared.parts.Kind.{Kind}
use Rattle.markdown_leaves.specs.declared.parts.Kind.TheVariants.{Paragraph, Heading, Table, Definitions}
use Rattle.markdown_lines.specs.Links.{Defined}
use Rattle.markdown_definitions.specs.Definitions.{part_defined}
use Rattle.markdown_reader.specs.Mapping.{Mapping, leaves_in, shown_parts}
use Rattle.markdown_stream.specs.Provisional.{part_provided}

-- a leaf whose words may name a definition
abbrev pub has_words : Kind → Bool
has_words Paragraph = true
has_words (Heading level) = true
has_words (Table columns) = true
has_words _ = false

-- no definition is asked for in a part
abbrev pub asks_nothing : PartContent → Bool
asks_nothing (block leaf) = not (has_words leaf.kind)
asks_nothing _ = true

-- a part says the same by some definitions as by others
abbrev pub SaysTheSame : Defined → Defined → PartContent → Type 0
SaysTheSame defined other part = (m : Mapping) → shown_parts defined (leaves_in part) m ≡ shown_parts other (leaves_in part) m

-- each of these parts says the same by the definitions that came up to it, and by those that its words name, as by all
abbrev pub AreKnown : Defined → Defined → List PartContent → Type 0
AreKnown all defined [] = Unit {0}
AreKnown all defined (part ∷ parts) = SaysTheSame (part_provided (part_defined defined part) part) all part × AreKnown all (part_defined defined part) parts

-- A part shows the same by some definitions as by others, but for where its links lead.
abbrev pub ShowsTheSame : Defined → Defined → PartContent → Type 0
ShowsTheSame defined other part = (m : Mapping) → record (shown_parts defined (leaves_in part) m) { links = [] } ≡ record (shown_parts other (leaves_in part) m) { links = [] }

-- so does each of these parts by the definitions that came up to it, and by those that its words name, and by all
abbrev pub AreShownAlike : Defined → Defined → List PartContent → Type 0
AreShownAlike all defined [] = Unit {0}
AreShownAlike all defined (part ∷ parts) = ShowsTheSame (part_provided (part_defined defined part) part) all part × AreShownAlike all (part_defined defined part) parts

-- each label that the words of these parts name by their shape is defined in front of them
abbrev pub NameDefined : Defined → List PartContent → Type 0
NameDefined defined [] = Unit {0}
NameDefined defined (part ∷ parts) = (part_provided (part_defined defined part) part ≡ part_defined defined part) × NameDefined (part_defined defined part) parts

-- the leaf is one of definitions
abbrev pub is_definitions : Kind → Bool
is_definitions Definitions = true
is_definitions _ = false

-- a part isn't definitions
abbrev pub defines_nothing : PartContent → Bool
defines_nothing (block leaf) = not (is_definitions leaf.kind)
defines_nothing _ = true
