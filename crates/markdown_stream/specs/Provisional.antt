-- Labels of references that count in a leaf before their definitions come: [text][label] and [label][] are links by their shape.
use Rattle.std.specs.Prelude.{ℕ, ◌-◌, ◌==◌, ◌||◌, ◌&&◌, not, Bool, true, false, if◌then◌else◌, List, [], ◌∷◌, ◌++◌, length, take, drop, Option, Some, None}
use Rattle.std.specs.Char.{is_ascii_alphanumeric, is_ascii_digit}
use Rattle.std.specs.List.{list_all, list_any}
use Rattle.std.specs.Str.{bytes_eq}
use Rattle.markdown_brackets.specs.Labels.{normal}
use Rattle.markdown_brackets.specs.Targets.{collapsed_len, full_label_len}
use Rattle.markdown_leaves.specs.Defining.{joined}
use Rattle.markdown_leaves.specs.Parts.{PartContent, block}
use Rattle.markdown_leaves.specs.declared.parts.Kind.{Kind}
use Rattle.markdown_leaves.specs.declared.parts.Kind.TheVariants.{Heading, Paragraph, Table}
use Rattle.markdown_lines.specs.Links.{Defined}
use Rattle.markdown_marks.specs.Bytes.{first}
use Rattle.markdown_marks.specs.Remaining.{Remaining}

-- ---- brackets

-- A bracket right behind one of these begins no link by its shape: a letter, a digit, `_`, `)` or `]`, as in `m[i][j]`.
abbrev pub is_word : ℕ → Bool
is_word b = is_ascii_alphanumeric b || (b == 95) || (b == 41) || (b == 93)

-- A bracket that is open: what stands behind it, and whether it may begin a link by its shape.
pub record Opening : Type 0 where
  pub behind : List ℕ
  pub free : Bool

-- a bracket behind this byte, and in front of this
abbrev pub opening_at : ℕ → List ℕ → Opening
opening_at before behind = record { behind = behind; free = not (is_word before) }

-- what stands between an open bracket and the closing one that this rest follows
abbrev pub inside : Opening → List ℕ → List ℕ
inside o rest = take (length o.behind - length rest - 1) o.behind

-- of a label in brackets behind the closing one: [label], or [], which names what is between the first two; without either none
abbrev pub label_by : Option ℕ → List ℕ → List ℕ → List (List ℕ)
label_by None between rest = if collapsed_len rest == 2 then between ∷ [] else []
label_by (Some len) between rest = take len (drop 1 rest) ∷ []

-- The label that a closing bracket names by its shape. What is between the brackets is no number: two citations in a row, as in `[1][2]`, are none.
abbrev pub named_by : Bool → List ℕ → List ℕ → List (List ℕ)
named_by free between rest = if free && not (list_all is_ascii_digit between) then label_by (full_label_len rest) between rest else []

-- of the nearest bracket that is open, if there is one
abbrev pub named : List Opening → List ℕ → List (List ℕ)
named [] rest = []
named (o ∷ os) rest = named_by o.free (inside o rest) rest

-- The labels that are named so in what is left of a text, behind these open brackets and this byte. A backslash takes the next byte's meaning.
unfoldable pub labels_from : List Opening → ℕ → Bool → List ℕ → List (List ℕ)
labels_from opens before escaped [] = []
labels_from opens before escaped (b ∷ bs) =
    let plain = labels_from opens b false bs in
    let opened = labels_from (opening_at before bs ∷ opens) b false bs in
    let closed = named opens bs ++ labels_from (drop 1 opens) b false bs in
    let on = labels_from opens b (b == 92) bs in
    if escaped then plain
    else if b == 91 then opened
    else if b == 93 then closed
    else on

-- those of a text
abbrev pub labels_named : List ℕ → List (List ℕ)
labels_named text = labels_from [] 0 false text

-- a closing bracket stands before an opening one
unfoldable pub may_name : List ℕ → Bool
may_name [] = false
may_name (b ∷ bs) = ((b == 93) && (first bs == 91)) || may_name bs

-- ---- definitions

-- a label that isn't defined leads nowhere for now
abbrev pub with_label : Defined → Option (List ℕ) → Defined
with_label defined None = defined
with_label defined (Some label) =
    if list_any (bytes_eq label) defined.labels then defined
    else record { labels = defined.labels ++ label ∷ []; addresses = defined.addresses ++ [] ∷ [] }

-- so do these
unfoldable pub with_labels : Defined → List (List ℕ) → Defined
with_labels defined [] = defined
with_labels defined (label ∷ labels) = with_labels (with_label defined (normal label)) labels

-- other definitions, or where there are none these
abbrev pub provided_or : Option Defined → Defined → Defined
provided_or None defined = defined
provided_or (Some provided) defined = provided

-- words may name definitions; no other leaf does
abbrev pub leaf_provided : Kind → Defined → List Remaining → Defined
leaf_provided Paragraph defined lines = with_labels defined (labels_named (joined [] lines))
leaf_provided (Heading level) defined lines = with_labels defined (labels_named (joined [] lines))
leaf_provided (Table columns) defined lines = with_labels defined (labels_named (joined [] lines))
leaf_provided _ defined lines = defined

-- The definitions by which a part is shown: those up to it, and for now those that its words name by their shape.
abbrev pub part_provided : Defined → PartContent → Defined
part_provided defined (block leaf) = leaf_provided leaf.kind defined leaf.lines
part_provided defined _ = defined
