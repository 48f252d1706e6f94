-- The names in parts, one part after the other.
use Rattle.std.proofs.Common.{◌≡◌, ℕ, ◌<◌, Bool, false, List, [], ◌∷◌, ◌++◌, length, map, refl, sym, ap, ◌∙◌, append_assoc, append-nil, arith}
use Rattle.std.specs.Borrow.{Bor}
use Rattle.std.specs.List.{flat_map}
use Rattle.markdown_leaves.specs.Defining.{joined}
use Rattle.markdown_leaves.specs.Parts.{BlockContent, PartContent, block, part_of}
use Rattle.markdown_leaves.specs.declared.parts.Part.{Part}
use Rattle.markdown_html_text.proofs.LeafLemmas.{texts_of}
use Rattle.markdown_lines.specs.Links.{Defined}
use Rattle.markdown_lines.specs.Names.{html_names}
use Rattle.markdown_reader.specs.Anchors.{AnchorSaid, anchor_at, kind_names, part_anchors, parts_anchors}
use Rattle.markdown_reader.specs.Mapping.{Mapping, html_leaf, html_parts, html_text, leaves_in, shown_part, shown_parts}
use Rattle.markdown_reader.proofs.PartsLemmas.{html_rest}

-- ---- one leaf

-- the names of a leaf of html, behind those before it
pub html_named : (defined : Defined) (apart : Bool) (leaf text : List ℕ) (names : List (List ℕ)) (section : ℕ) (m : Mapping) (done now : List AnchorSaid) → text ≡ html_text leaf → names ≡ html_names text → section ≡ length m.sections
    → now ≡ done ++ map (anchor_at section) names → now ≡ done ++ part_anchors defined (html_leaf apart leaf) m
unfolding joined
html_named defined apart leaf text names section m done now t n s is =
    is ∙ ap (λ k. done ++ map (anchor_at k) names) s ∙ ap (λ (l : List (List ℕ)). done ++ map (anchor_at (length m.sections)) l) (n ∙ ap html_names t)

-- those of another leaf
pub block_named : (defined : Defined) (leaf : BlockContent) (names : List (List ℕ)) (section : ℕ) (m : Mapping) (done now : List AnchorSaid) → names ≡ kind_names defined leaf.kind leaf.lines → section ≡ length m.sections
    → now ≡ done ++ map (anchor_at section) names → now ≡ done ++ part_anchors defined (block leaf) m
block_named defined leaf names section m done now n s is =
    is ∙ ap (λ k. done ++ map (anchor_at k) names) s ∙ ap (λ (l : List (List ℕ)). done ++ map (anchor_at (length m.sections)) l) n

-- ---- one leaf of html more

pub leaf_is_named : (defined : Defined) (apart : Bool) (leaf : List ℕ) (leaves : List (List ℕ)) (m after : Mapping) (done now : List AnchorSaid) → after ≡ shown_part defined (html_leaf apart leaf) m
    → now ≡ done ++ part_anchors defined (html_leaf apart leaf) m → now ++ parts_anchors defined (html_parts false leaves) after ≡ done ++ parts_anchors defined (html_parts apart (leaf ∷ leaves)) m
unfolding parts_anchors
leaf_is_named defined apart leaf leaves m after done now e n =
    let rest : List PartContent = map (html_leaf false) leaves in
    let own : List AnchorSaid = part_anchors defined (html_leaf apart leaf) m in
    ap (λ (l : List PartContent). now ++ parts_anchors defined l after) (html_rest leaves)
    ∙ ap (λ (l : List AnchorSaid). l ++ parts_anchors defined rest after) n ∙ append_assoc done own (parts_anchors defined rest after)
    ∙ ap (λ (k : Mapping). done ++ (own ++ parts_anchors defined rest k)) e

-- behind the last leaf there is no name
pub no_leaf_named : (defined : Defined) (apart : Bool) (rest : List (Bor (List ℕ))) (m : Mapping) (done : List AnchorSaid) → length rest < 1 → done ≡ done ++ parts_anchors defined (html_parts apart (texts_of rest)) m
unfolding parts_anchors
no_leaf_named defined apart [] m done h = sym (append-nil done)
no_leaf_named defined apart (leaf ∷ rest) m done h = absurd (omega (arith, h))

-- ---- one part more, leaf by leaf

anchors_joined : (defined : Defined) (parts later : List PartContent) (m : Mapping) → parts_anchors defined (parts ++ later) m ≡ parts_anchors defined parts m ++ parts_anchors defined later (shown_parts defined parts m)
unfolding shown_parts parts_anchors
anchors_joined defined [] later m = refl
anchors_joined defined (part ∷ parts) later m =
    let after : Mapping = shown_part defined part m in
    let own : List AnchorSaid = part_anchors defined part m in
    ap (λ (l : List AnchorSaid). own ++ l) (anchors_joined defined parts later after) ∙ sym (append_assoc own (parts_anchors defined parts after) (parts_anchors defined later (shown_parts defined parts after)))

pub part_named : (defined : Defined) (part : PartContent) (rest : List PartContent) (m after : Mapping) (done now : List AnchorSaid) → after ≡ shown_parts defined (leaves_in part) m → now ≡ done ++ parts_anchors defined (leaves_in part) m
    → now ++ parts_anchors defined (flat_map leaves_in rest) after ≡ done ++ parts_anchors defined (flat_map leaves_in (part ∷ rest)) m
part_named defined part rest m after done now e n =
    let own : List AnchorSaid = parts_anchors defined (leaves_in part) m in
    ap (λ (l : List AnchorSaid). l ++ parts_anchors defined (flat_map leaves_in rest) after) n
    ∙ ap (λ (k : Mapping). (done ++ own) ++ parts_anchors defined (flat_map leaves_in rest) k) e
    ∙ append_assoc done own (parts_anchors defined (flat_map leaves_in rest) (shown_parts defined (leaves_in part) m))
    ∙ ap (λ (l : List AnchorSaid). done ++ l) (sym (anchors_joined defined (leaves_in part) (flat_map leaves_in rest) m))

-- behind the last part there is no name
pub no_part_named : (defined : Defined) (rest : List Part) (m : Mapping) (done : List AnchorSaid) → length rest < 1 → done ≡ done ++ parts_anchors defined (flat_map leaves_in (map part_of rest)) m
unfolding parts_anchors
no_part_named defined [] m done h = sym (append-nil done)
no_part_named defined (part ∷ rest) m done h = absurd (omega (arith, h))
