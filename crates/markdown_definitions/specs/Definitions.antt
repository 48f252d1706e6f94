-- The definitions of a text: their labels, and where each leads.
use Rattle.std.specs.Prelude.{ℕ, zero, suc, ◌-◌, false, if◌then◌else◌, List, [], ◌∷◌, ◌++◌, length, take, drop, Option, Some, None}
use Rattle.std.specs.List.{list_any}
use Rattle.std.specs.Str.{bytes_eq}
use Rattle.markdown_brackets.specs.Labels.{normal}
use Rattle.markdown_marks.specs.Definitions.{after_label, after_definition}
use Rattle.markdown_marks.specs.Remaining.{Remaining}
use Rattle.markdown_leaves.specs.Defining.{joined}
use Rattle.markdown_leaves.specs.Parts.{PartContent, block}
use Rattle.markdown_leaves.specs.declared.parts.Kind.{Kind}
use Rattle.markdown_leaves.specs.declared.parts.Kind.TheVariants.{Definitions}
use Rattle.markdown_lines.specs.Links.{Defined, definition_address}

-- the label whose bracket closes before this rest; without one, all
abbrev pub label_before : Option (List ℕ) → List ℕ → List ℕ
label_before None inside = inside
label_before (Some rest) inside = take (length inside - length rest - 1) inside

-- the label in front of a definition
abbrev pub label_of : List ℕ → List ℕ
label_of text = label_before (after_label 0 false false (drop 1 text)) (drop 1 text)

-- the first definition of a label counts
abbrev pub with_definition : Defined → Option (List ℕ) → List ℕ → Defined
with_definition defined None text = defined
with_definition defined (Some label) text =
    if list_any (bytes_eq label) defined.labels then defined
    else record { labels = defined.labels ++ label ∷ []; addresses = defined.addresses ++ definition_address text ∷ [] }

-- a definition in front is added, and then others; without one all stays
abbrev pub defined_or : Option (List ℕ) → Defined → List ℕ → (Defined → List ℕ → Defined) → Defined
defined_or None defined text others = defined
defined_or (Some rest) defined text others = others (with_definition defined (normal (label_of text)) text) rest

-- some definitions, and those in front of a text, at most so many
unfoldable pub defined_in : ℕ → Defined → List ℕ → Defined
defined_in zero defined text = defined
defined_in (suc count) defined text = defined_or (after_definition text) defined text (defined_in count)

-- only a leaf of definitions adds some
abbrev pub leaf_defined : Kind → Defined → List Remaining → Defined
leaf_defined Definitions defined lines = defined_in (length (joined [] lines)) defined (joined [] lines)
leaf_defined _ defined lines = defined

-- a part that is a leaf adds what it defines
abbrev pub part_defined : Defined → PartContent → Defined
part_defined defined (block leaf) = leaf_defined leaf.kind defined leaf.lines
part_defined defined _ = defined

-- some definitions, and all those among these parts
unfoldable pub parts_defined : Defined → List PartContent → Defined
parts_defined defined [] = defined
parts_defined defined (part ∷ parts) = parts_defined (part_defined defined part) parts

-- no label is defined
abbrev pub nothing_defined : Defined
nothing_defined = record { labels = []; addresses = [] }

-- all definitions among parts
abbrev pub definitions_of : List PartContent → Defined
definitions_of parts = parts_defined nothing_defined parts
