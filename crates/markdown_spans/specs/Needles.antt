-- Where certain bytes stand in a text.
use Rattle.std.specs.Prelude.{◌≡◌, ℕ, ◌≤◌, false, if◌then◌else◌, List, [], ◌∷◌, length, drop, Option, Some, None}
use Rattle.markdown_html.specs.Starts.{begins}

-- what follows these bytes where they stand first
unfoldable pub after_first : List ℕ → List ℕ → Option (List ℕ)
after_first needle [] = None
after_first needle (b ∷ bs) = if begins (b ∷ bs) needle then Some (drop (length needle) (b ∷ bs)) else after_first needle bs

-- these bytes begin nowhere from a place on
abbrev pub IsLast : List ℕ → ℕ → List ℕ → Type 0
IsLast needle last text = (at : ℕ) → last ≤ at → begins (drop at text) needle ≡ false
