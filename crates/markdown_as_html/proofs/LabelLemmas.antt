-- Two readings of definitions find the same labels.
use Rattle.std.proofs.Common.{◌≡◌, ℕ, zero, suc, Bool, true, false, List, [], ◌∷◌, ◌++◌, length, Option, Some, None, refl, sym, ap, ◌∙◌, if◌then◌else◌}
use Rattle.std.specs.List.{list_any}
use Rattle.std.specs.Str.{bytes_eq}
use Rattle.markdown_brackets.specs.Labels.{normal}
use Rattle.markdown_marks.specs.Definitions.{after_definition}
use Rattle.markdown_marks.specs.Remaining.{Remaining}
use Rattle.markdown_leaves.specs.Defining.{joined}
use Rattle.markdown_leaves.specs.Parts.{PartContent, begins, ends, block}
use Rattle.markdown_leaves.specs.declared.parts.Kind.{Kind}
use Rattle.markdown_leaves.specs.declared.parts.Kind.TheVariants.{Nothing, Paragraph, Heading, Indented, Fenced, Html, Table, Rule, Definitions}
use Rattle.markdown_lines.specs.Links.{Defined as Read}
use Rattle.markdown_definitions.specs.Definitions.{label_of, with_definition as with_read, defined_or as read_or, defined_in as read_in, leaf_defined as leaf_read, part_defined as part_read, parts_defined as parts_read, nothing_defined}
use Rattle.markdown_as_html.specs.Defined.{Defined, with_definition, defined_or, defined_in, leaf_defined, part_defined, parts_defined}
use Rattle.markdown_as_html.specs.Laws.{LabelsAreThose}

abbrev AreSame : Defined → Read → Type 0
AreSame d r = d.labels ≡ r.labels

-- these labels with one more, unless it is among them
abbrev with_label : List ℕ → List (List ℕ) → List (List ℕ)
with_label label labels = if list_any (bytes_eq label) labels then labels else labels ++ label ∷ []

chosen : (c : Bool) (d e : Defined) → (if c then d else e).labels ≡ (if c then d.labels else e.labels)
chosen true d e = refl
chosen false d e = refl

chosen_read : (c : Bool) (d e : Read) → (if c then d else e).labels ≡ (if c then d.labels else e.labels)
chosen_read true d e = refl
chosen_read false d e = refl

one : (label : Option (List ℕ)) (text : List ℕ) (d : Defined) (r : Read) → AreSame d r → AreSame (with_definition d label text) (with_read r label text)
one None text d r h = h
one (Some label) text d r h = chosen (list_any (bytes_eq label) d.labels) d _ ∙ ap (with_label label) h ∙ sym (chosen_read (list_any (bytes_eq label) r.labels) r _)

more : (rest : Option (List ℕ)) (text : List ℕ) (d : Defined) (r : Read) (others : Defined → List ℕ → Defined) (read : Read → List ℕ → Read)
    → ((d : Defined) (r : Read) (t : List ℕ) → AreSame d r → AreSame (others d t) (read r t)) → AreSame d r → AreSame (defined_or rest d text others) (read_or rest r text read)
more None text d r others read f h = h
more (Some rest) text d r others read f h = f _ _ rest (one (normal (label_of text)) text d r h)

same_in : (count : ℕ) (d : Defined) (r : Read) (text : List ℕ) → AreSame d r → AreSame (defined_in count d text) (read_in count r text)
unfolding defined_in read_in
same_in zero d r text h = h
same_in (suc count) d r text h = more (after_definition text) text d r (defined_in count) (read_in count) (same_in count) h

same_leaf : (kind : Kind) (lines : List Remaining) (d : Defined) (r : Read) → AreSame d r → AreSame (leaf_defined kind d lines) (leaf_read kind r lines)
same_leaf Definitions lines d r h = same_in (length (joined [] lines)) d r (joined [] lines) h
same_leaf Nothing lines d r h = h
same_leaf Paragraph lines d r h = h
same_leaf (Heading level) lines d r h = h
same_leaf Indented lines d r h = h
same_leaf Fenced lines d r h = h
same_leaf Html lines d r h = h
same_leaf (Table columns) lines d r h = h
same_leaf Rule lines d r h = h

same_part : (part : PartContent) (d : Defined) (r : Read) → AreSame d r → AreSame (part_defined d part) (part_read r part)
same_part (begins container apart) d r h = h
same_part ends d r h = h
same_part (block b) d r h = same_leaf b.kind b.lines d r h

same_from : (parts : List PartContent) (d : Defined) (r : Read) → AreSame d r → AreSame (parts_defined d parts) (parts_read r parts)
unfolding parts_defined parts_read
same_from [] d r h = h
same_from (part ∷ parts) d r h = same_from parts _ _ (same_part part d r h)

-- the labels that are defined for html are those that are defined for lines
pub same_labels : LabelsAreThose
same_labels parts = same_from parts (record { labels = []; leads = [] }) nothing_defined refl
