-- What is said of keys that name no part of a skin.
use Rattle.std.specs.Prelude.{◌≡◌, ℕ, List, [], ◌∷◌, ◌++◌, codes}
use Rattle.mad_term.specs.Trace.{Trace}
use Rattle.termimad_words.specs.Failures.{SaysOnce}

-- what is said of the keys that name no part of a skin: a line for each, in their order
abbrev pub key_lines : List (List ℕ) → List ℕ
key_lines [] = []
key_lines (key ∷ keys) = codes "unknown key: " ++ (key ++ (10 ∷ key_lines keys))

-- the device took a line for each of these keys, or a front of these lines and then failed once; without keys nothing happened
abbrev pub SaysKeys : Trace → List (List ℕ) → Trace → Type 0
SaysKeys old [] new = new ≡ old
SaysKeys old (key ∷ keys) new = SaysOnce old (key_lines (key ∷ keys)) new
