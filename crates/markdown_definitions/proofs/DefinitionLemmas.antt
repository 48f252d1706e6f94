-- One more definition.
use Rattle.std.proofs.Common.{◌≡◌, ℕ, Bool, true, false, cond, not, List, [], ◌∷◌, ◌++◌, Some, if◌then◌else◌, ap, ◌∙◌}
use Rattle.std.specs.List.{list_any}
use Rattle.std.specs.Str.{bytes_eq}
use Rattle.markdown_brackets.specs.Labels.{with_label}
use Rattle.markdown_lines.specs.Links.{Defined, definition_address}
use Rattle.markdown_definitions.specs.Definitions.{with_definition}

-- these labels are defined, each with the address at its place
abbrev pub defined_with : List (List ℕ) → List (List ℕ) → Defined
defined_with labels addresses = record { labels = labels; addresses = addresses }

new_by : (t : Bool) (labels new addresses now : List (List ℕ)) (label address : List ℕ) → true ≡ not t → new ≡ cond t labels (labels ++ label ∷ []) → now ≡ addresses ++ address ∷ []
    → defined_with new now ≡ (if t then defined_with labels addresses else defined_with (labels ++ label ∷ []) (addresses ++ address ∷ []))
new_by true labels new addresses now label address fresh new_is now_is = absurd (no fresh)
  where
    no : true ≡ false → ⊥
    no e = cc
new_by false labels new addresses now label address fresh new_is now_is =
    ap (λ (l : List (List ℕ)). defined_with l now) new_is ∙ ap (defined_with (labels ++ label ∷ [])) now_is

old_by : (t : Bool) (labels new addresses now : List (List ℕ)) (label address : List ℕ) → false ≡ not t → new ≡ cond t labels (labels ++ label ∷ []) → now ≡ addresses
    → defined_with new now ≡ (if t then defined_with labels addresses else defined_with (labels ++ label ∷ []) (addresses ++ address ∷ []))
old_by true labels new addresses now label address there new_is now_is = ap (λ (l : List (List ℕ)). defined_with l now) new_is ∙ ap (defined_with labels) now_is
old_by false labels new addresses now label address there new_is now_is = absurd (no there)
  where
    no : false ≡ true → ⊥
    no e = cc

-- a definition whose label is new
pub definition_new : (labels new : List (List ℕ)) (label : List ℕ) (addresses now : List (List ℕ)) (text : List ℕ)
    → true ≡ not (list_any (bytes_eq label) labels) → new ≡ with_label labels label → now ≡ addresses ++ definition_address text ∷ []
    → defined_with new now ≡ with_definition (defined_with labels addresses) (Some label) text
definition_new labels new label addresses now text fresh new_is now_is =
    new_by (list_any (bytes_eq label) labels) labels new addresses now label (definition_address text) fresh new_is now_is

-- one whose label was defined before
pub definition_old : (labels new : List (List ℕ)) (label : List ℕ) (addresses now : List (List ℕ)) (text : List ℕ)
    → false ≡ not (list_any (bytes_eq label) labels) → new ≡ with_label labels label → now ≡ addresses
    → defined_with new now ≡ with_definition (defined_with labels addresses) (Some label) text
definition_old labels new label addresses now text there new_is now_is =
    old_by (list_any (bytes_eq label) labels) labels new addresses now label (definition_address text) there new_is now_is
