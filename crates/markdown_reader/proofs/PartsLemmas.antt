-- Parts one after the other, and the leaves of html among them.
use Rattle.std.proofs.Common.{◌≡◌, ℕ, ◌-◌, ◌<◌, Bool, false, List, [], ◌∷◌, ◌++◌, length, take, drop, get_or, map, refl, sym, ap, ◌∙◌, append_assoc, arith}
use Rattle.std.specs.Borrow.{Bor}
use Rattle.std.proofs.lemmas.List.{take_all, append-nil}
use Rattle.std.specs.List.{flat_map}
use Rattle.markdown_leaves.specs.Parts.{PartContent}
use Rattle.markdown_html_text.proofs.LeafLemmas.{texts_of}
use Rattle.markdown_lines.specs.Links.{Defined}
use Rattle.markdown_reader.specs.Mapping.{Mapping, html_leaf, html_parts, leaves_in, shown_part, shown_parts}
use Rattle.markdown_reader.specs.SectionNumbers.{added_numbers, part_numbers, parts_numbers}

-- the first of some, and those behind it
pub first_of : {A B : Type 0} (f : A → B) (rest : List A) (d : A) → 0 < length rest → map f rest ≡ f (get_or rest 0 d) ∷ map f (take (length rest - 1) (drop 1 rest))
first_of f [] d h = absurd (omega (arith, h))
first_of f (x ∷ xs) d h = ap (λ l. f x ∷ map f l) (sym (take_all (length (x ∷ xs) - 1) xs (omega arith)))

-- ---- parts, and then later ones

pub shown_joined : (defined : Defined) (parts later : List PartContent) (m : Mapping) → shown_parts defined (parts ++ later) m ≡ shown_parts defined later (shown_parts defined parts m)
unfolding shown_parts
shown_joined defined [] later m = refl
shown_joined defined (part ∷ parts) later m = shown_joined defined parts later (shown_part defined part m)

numbers_joined : (defined : Defined) (parts later : List PartContent) (m : Mapping) → parts_numbers defined (parts ++ later) m ≡ parts_numbers defined parts m ++ parts_numbers defined later (shown_parts defined parts m)
unfolding shown_parts parts_numbers
numbers_joined defined [] later m = refl
numbers_joined defined (part ∷ parts) later m =
    let after : Mapping = shown_part defined part m in
    let own : List (List ℕ) = added_numbers (part_numbers defined m part) m after in
    ap (λ (l : List (List ℕ)). own ++ l) (numbers_joined defined parts later after) ∙ sym (append_assoc own (parts_numbers defined parts after) (parts_numbers defined later (shown_parts defined parts after)))

-- ---- one part more, leaf by leaf

-- what it is shown as, before what the others are
pub part_shown : (defined : Defined) (part : PartContent) (rest : List PartContent) (m after : Mapping) → after ≡ shown_parts defined (leaves_in part) m
    → shown_parts defined (flat_map leaves_in rest) after ≡ shown_parts defined (flat_map leaves_in (part ∷ rest)) m
part_shown defined part rest m after e = ap (shown_parts defined (flat_map leaves_in rest)) e ∙ sym (shown_joined defined (leaves_in part) (flat_map leaves_in rest) m)

-- its numbers before theirs
pub part_numbered : (defined : Defined) (part : PartContent) (rest : List PartContent) (m after : Mapping) (done now : List (List ℕ)) → after ≡ shown_parts defined (leaves_in part) m → now ≡ done ++ parts_numbers defined (leaves_in part) m
    → now ++ parts_numbers defined (flat_map leaves_in rest) after ≡ done ++ parts_numbers defined (flat_map leaves_in (part ∷ rest)) m
part_numbered defined part rest m after done now e n =
    let own : List (List ℕ) = parts_numbers defined (leaves_in part) m in
    ap (λ (l : List (List ℕ)). l ++ parts_numbers defined (flat_map leaves_in rest) after) n
    ∙ ap (λ (k : Mapping). (done ++ own) ++ parts_numbers defined (flat_map leaves_in rest) k) e
    ∙ append_assoc done own (parts_numbers defined (flat_map leaves_in rest) (shown_parts defined (leaves_in part) m))
    ∙ ap (λ (l : List (List ℕ)). done ++ l) (sym (numbers_joined defined (leaves_in part) (flat_map leaves_in rest) m))

-- ---- one leaf of html more

pub html_rest : (leaves : List (List ℕ)) → html_parts false leaves ≡ map (html_leaf false) leaves
html_rest [] = refl
html_rest (leaf ∷ leaves) = refl

-- what it is shown as, before what the others are
pub leaf_is_shown : (defined : Defined) (apart : Bool) (leaf : List ℕ) (leaves : List (List ℕ)) (m after : Mapping) → after ≡ shown_part defined (html_leaf apart leaf) m
    → shown_parts defined (html_parts false leaves) after ≡ shown_parts defined (html_parts apart (leaf ∷ leaves)) m
unfolding shown_parts
leaf_is_shown defined apart leaf leaves m after e =
    ap (λ (l : List PartContent). shown_parts defined l after) (html_rest leaves) ∙ ap (shown_parts defined (map (html_leaf false) leaves)) e

-- its numbers before theirs
pub leaf_is_numbered : (defined : Defined) (apart : Bool) (leaf : List ℕ) (leaves : List (List ℕ)) (m after : Mapping) (done now : List (List ℕ)) → after ≡ shown_part defined (html_leaf apart leaf) m
    → now ≡ done ++ added_numbers (part_numbers defined m (html_leaf apart leaf)) m after → now ++ parts_numbers defined (html_parts false leaves) after ≡ done ++ parts_numbers defined (html_parts apart (leaf ∷ leaves)) m
unfolding parts_numbers
leaf_is_numbered defined apart leaf leaves m after done now e n =
    let rest : List PartContent = map (html_leaf false) leaves in
    let own : List (List ℕ) = added_numbers (part_numbers defined m (html_leaf apart leaf)) m after in
    ap (λ (l : List PartContent). now ++ parts_numbers defined l after) (html_rest leaves)
    ∙ ap (λ (l : List (List ℕ)). l ++ parts_numbers defined rest after) n ∙ append_assoc done own (parts_numbers defined rest after)
    ∙ ap (λ (k : Mapping). done ++ (added_numbers (part_numbers defined m (html_leaf apart leaf)) m k ++ parts_numbers defined rest k)) e

-- behind the last leaf nothing more is shown
pub no_leaf_shown : (defined : Defined) (apart : Bool) (rest : List (Bor (List ℕ))) (m : Mapping) → length rest < 1 → m ≡ shown_parts defined (html_parts apart (texts_of rest)) m
unfolding shown_parts
no_leaf_shown defined apart [] m h = refl
no_leaf_shown defined apart (leaf ∷ rest) m h = absurd (omega (arith, h))

-- and nothing more is numbered
pub no_leaf_numbered : (defined : Defined) (apart : Bool) (rest : List (Bor (List ℕ))) (m : Mapping) (done : List (List ℕ)) → length rest < 1 → done ≡ done ++ parts_numbers defined (html_parts apart (texts_of rest)) m
unfolding parts_numbers
no_leaf_numbered defined apart [] m done h = sym (append-nil done)
no_leaf_numbered defined apart (leaf ∷ rest) m done h = absurd (omega (arith, h))
