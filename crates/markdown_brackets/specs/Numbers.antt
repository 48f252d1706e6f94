-- A map from each label to its number, as the list of the labels.
use Rattle.std.specs.Prelude.{◌≡◌, ℕ, zero, suc, ◌<◌, eqb, if◌then◌else◌, List, [], ◌∷◌, ◌++◌, length, position, String, string_bytes}
use Rattle.std.specs.BTreeMap.{is_at}
use Rattle.std.specs.Cmp.Lexicographic.{slice_cmp}
use Rattle.std.specs.List.{All}
use Rattle.std.specs.Map.{lookup, values_of}
use Rattle.std.specs.Ordering.{nat_cmp}
use Rattle.std.specs.Str.{bytes_eq}

-- the label that has this number
abbrev pub label_at : {A : Type 0} → ℕ → List (String A × ℕ) → List ℕ
label_at number [] = []
label_at number (entry ∷ entries) = if eqb entry.1 number then string_bytes entry.0 else label_at number entries

-- the labels of the first so many numbers
abbrev pub first_labels : {A : Type 0} → ℕ → List (String A × ℕ) → List (List ℕ)
first_labels zero entries = []
first_labels (suc count) entries = first_labels count entries ++ label_at count entries ∷ []

-- all labels, in the order of their numbers
abbrev pub by_number : {A : Type 0} → List (String A × ℕ) → List (List ℕ)
by_number entries = first_labels (length entries) entries

-- each label has the number at which it stands in that list
pub record IsNumbered {A : Type 0} (entries : List (String A × ℕ)) : Type 0 where
  pub below : All (λ (number : ℕ). number < length entries) (values_of entries)
  pub found : (label : List ℕ) → lookup (is_at (λ key. slice_cmp nat_cmp label (string_bytes key))) entries ≡ position (bytes_eq label) (by_number entries)
