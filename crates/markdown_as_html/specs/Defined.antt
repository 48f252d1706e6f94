-- The definitions of a text, with where each leads and its title.
use Rattle.std.specs.Prelude.{ℕ, zero, suc, List, [], ◌∷◌, ◌++◌, length, Option, Some, None, if◌then◌else◌}
use Rattle.std.specs.List.{list_any}
use Rattle.std.specs.Str.{bytes_eq}
use Rattle.markdown_brackets.specs.Labels.{normal}
use Rattle.markdown_marks.specs.Definitions.{after_definition}
use Rattle.markdown_marks.specs.Remaining.{Remaining}
use Rattle.markdown_leaves.specs.Defining.{joined}
use Rattle.markdown_leaves.specs.Parts.{PartContent, block}
use Rattle.markdown_leaves.specs.declared.parts.Kind.{Kind}
use Rattle.markdown_leaves.specs.declared.parts.Kind.TheVariants.{Definitions}
use Rattle.markdown_destinations.specs.Destinations.{Leads, defined_leads}
use Rattle.markdown_definitions.specs.Definitions.{label_of}

-- labels as they are compared, and where each leads
pub record Defined : Type 0 where
  pub labels : List (List ℕ)
  pub leads : List Leads

-- the first definition of a label counts
abbrev pub with_definition : Defined → Option (List ℕ) → List ℕ → Defined
with_definition defined None text = defined
with_definition defined (Some label) text =
    if list_any (bytes_eq label) defined.labels then defined
    else record { labels = defined.labels ++ label ∷ []; leads = defined.leads ++ defined_leads text ∷ [] }

-- a definition in front is added, and then others; without one all stays
abbrev pub defined_or : Option (List ℕ) → Defined → List ℕ → (Defined → List ℕ → Defined) → Defined
defined_or None defined text others = defined
defined_or (Some rest) defined text others = others (with_definition defined (normal (label_of text)) text) rest

-- some definitions, and those in front of a text, at most so many
unfoldable pub defined_in : ℕ → Defined → List ℕ → Defined
defined_in zero defined text = defined
defined_in (suc count) defined text = defined_or (after_definition text) defined text (defined_in count)

-- only a leaf of definitions adds some
abbrev pub leaf_defined : Kind → Defined → List Remaining → Defined
leaf_defined Definitions defined lines = defined_in (length (joined [] lines)) defined (joined [] lines)
leaf_defined _ defined lines = defined

-- a part that is a leaf adds what it defines
abbrev pub part_defined : Defined → PartContent → Defined
part_defined defined (block leaf) = leaf_defined leaf.kind defined leaf.lines
part_defined defined _ = defined

-- each of these parts adds what it defines, in order
unfoldable pub parts_defined : Defined → List PartContent → Defined
parts_defined defined [] = defined
parts_defined defined (part ∷ parts) = parts_defined (part_defined defined part) parts

-- all definitions among parts
abbrev pub definitions_of : List PartContent → Defined
definitions_of parts = parts_defined (record { labels = []; leads = [] }) parts
