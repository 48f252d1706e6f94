-- The names in a text to which links go, each with its section. Names in tables are left out.
use Rattle.std.specs.Prelude.{ℕ, List, [], ◌∷◌, ◌++◌, length, map, string_bytes}
use Rattle.std.specs.List.{flat_map}
use Rattle.markdown_marks.specs.Remaining.{Remaining}
use Rattle.markdown_leaves.specs.Defining.{joined}
use Rattle.markdown_leaves.specs.Parts.{PartContent, block}
use Rattle.markdown_leaves.specs.Told.{parts_of}
use Rattle.markdown_leaves.specs.declared.parts.Kind.{Kind}
use Rattle.markdown_leaves.specs.declared.parts.Kind.TheVariants.{Paragraph, Heading, Html}
use Rattle.markdown_lines.specs.Links.{Defined}
use Rattle.markdown_lines.specs.Names.{html_names, leaf_names}
use Rattle.markdown_lines.specs.Texts.{behind_mark}
use Rattle.markdown_definitions.specs.Definitions.{definitions_of}
use Rattle.markdown_reader.specs.Mapping.{Mapping, html_text, leaves_in, nothing_shown, shown_part, text_of}
use Rattle.markdown_reader.specs.declared.anchors.Anchor.{Anchor}

-- a name: how many sections are before the leaf where it stands, so the number of this leaf, or of the blank row before it
pub record AnchorSaid : Type 0 where
  pub section : ℕ
  pub name : List ℕ

-- what a name of the code says
abbrev pub anchor_said : Anchor → AnchorSaid
anchor_said anchor = record { section = anchor.section; name = string_bytes anchor.name }

-- a name at a section
abbrev pub anchor_at : ℕ → List ℕ → AnchorSaid
anchor_at section name = record { section = section; name = name }

-- those of a leaf
abbrev pub kind_names : Defined → Kind → List Remaining → List (List ℕ)
kind_names defined Paragraph lines = leaf_names defined.labels (text_of (joined [] lines))
kind_names defined (Heading level) lines = leaf_names defined.labels (text_of (joined [] lines))
kind_names defined Html lines = html_names (html_text (joined [] lines))
kind_names defined _ lines = []

-- those of a part
abbrev pub part_names : Defined → PartContent → List (List ℕ)
part_names defined (block leaf) = kind_names defined leaf.kind leaf.lines
part_names defined _ = []

-- a part's names, where these sections are before it
abbrev pub part_anchors : Defined → PartContent → Mapping → List AnchorSaid
part_anchors defined part m = map (anchor_at (length m.sections)) (part_names defined part)

-- those of parts, one after the other
unfoldable pub parts_anchors : Defined → List PartContent → Mapping → List AnchorSaid
parts_anchors defined [] m = []
parts_anchors defined (part ∷ parts) m = part_anchors defined part m ++ parts_anchors defined parts (shown_part defined part m)

-- those of a text behind its byte order mark
abbrev pub unmarked_anchors : List ℕ → List AnchorSaid
unmarked_anchors source = parts_anchors (definitions_of (parts_of source)) (flat_map leaves_in (parts_of source)) nothing_shown

-- those of a text
abbrev pub markdown_anchors : List ℕ → List AnchorSaid
markdown_anchors source = unmarked_anchors (behind_mark source)
