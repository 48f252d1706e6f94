-- Which columns a title goes over.
use Rattle.std.specs.Prelude.{◌≡◌, ◌≢◌, ℕ, List, [], ◌∷◌, All, string_bytes}
use Rattle.mad_list_columns.specs.declared.columns.ListViewColumn.{ListViewColumn}

-- all of these columns have this title
abbrev pub HaveTitle : {E : Type 0} → List ℕ → List (ListViewColumn E) → Type 0
HaveTitle title columns = All (λ c. string_bytes c.title ≡ title) columns

-- the first of these has another, if there is one
abbrev pub BeginsAnother : {E : Type 0} → List ℕ → List (ListViewColumn E) → Type 0
BeginsAnother title [] = Unit {0}
BeginsAnother title (c ∷ cs) = string_bytes c.title ≢ title
