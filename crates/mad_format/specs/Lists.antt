-- Words for lists.
use Rattle.std.specs.Prelude.{◌≡◌, ℕ, max, List, [], ◌∷◌, ◌++◌}

-- the greatest of what is counted of each element, 0 of none
abbrev pub most : {A : Type 0} → (A → ℕ) → List A → ℕ
most count [] = 0
most count (x ∷ xs) = max (count x) (most count xs)

-- what becomes of each of the elements, in order: `becomes` says what an element becomes
abbrev pub EachBecomes : {A B : Type 0} → (A → List B → Type 0) → List A → List B → Type 0
EachBecomes {A} {B} becomes [] all = all ≡ []
EachBecomes {A} {B} becomes (x ∷ xs) all = (own : List B) × (others : List B) × (all ≡ own ++ others) × becomes x own × EachBecomes becomes xs others
