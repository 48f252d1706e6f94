-- Laws of hits.
use Rattle.std.specs.Prelude.{◌≡◌, ℕ, ◌+◌, ◌<◌, ◌≤◌, nat_eq, true, List, [], ◌∷◌, chars, drop, get_or, length, IsCharBoundary, IsUtf8}
use Rattle.std.specs.List.{starts_with}
use Rattle.regex.specs.Patterns.{Re, escaped_text}
use Rattle.mad_patterns.specs.Capitals.{has_capital}
use Rattle.mad_patterns.specs.Readings.{IsReadAs}
use Rattle.mad_patterns.specs.Searches.{hits}

-- the bytes of a word stand at a place of a text
abbrev pub StandsAt : List ℕ → List ℕ → ℕ → Type 0
StandsAt word text at = starts_with nat_eq (drop at text) word ≡ true

-- Where a word stands between characters of a text, from a place on: the first time from the left, and then each next time behind the one before.
abbrev pub ArePlacesOf : List ℕ → List ℕ → ℕ → List (ℕ × ℕ) → Type 0
ArePlacesOf word text from [] = (at : ℕ) → from ≤ at → IsCharBoundary text at → ¬ StandsAt word text at
ArePlacesOf word text from (hit ∷ hits) =
    (from ≤ hit.0) × StandsAt word text hit.0 × (hit.1 ≡ hit.0 + length word)
    × ((at : ℕ) → from ≤ at → at < hit.0 → IsCharBoundary text at → ¬ StandsAt word text at)
    × ArePlacesOf word text hit.1 hits

-- A text without signs of regular expressions stands for itself: where it has a capital, its hits in bytes are the places where it stands.
abbrev pub TextIsFoundAsItStands : Type 0
TextIsFoundAsItStands =
    (word text : List ℕ) (sought : Re) → IsUtf8 word → escaped_text (chars word) ≡ chars word → has_capital word ≡ true → ((k : ℕ) → get_or text k 0 < 256) → IsReadAs word sought
    → ArePlacesOf word text 0 (hits sought text)
