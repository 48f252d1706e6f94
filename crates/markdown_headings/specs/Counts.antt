-- How many headings have a name, as a map has it.
use Rattle.std.specs.Prelude.{◌≡◌, ℕ, ◌+◌, ◌-◌, ◌^◌, min, cond, List, String, unwrap_or}
use Rattle.std.specs.BTreeMap.{BTreeMap, get_by_text}
use Rattle.std.specs.Str.{bytes_eq}

-- how many have this name, by the map
abbrev pub counted : {Y : Type 0} → BTreeMap (String Y) ℕ → List ℕ → ℕ
counted counts name = unwrap_or (get_by_text counts name) 0

-- the next number of 64 bits, if there is one
abbrev pub next : ℕ → ℕ
next n = min (n + 1) (2 ^ 64 - 1)

-- this name is counted once more, and no other
abbrev pub IsCountedOnce : {Y : Type 0} → BTreeMap (String Y) ℕ → BTreeMap (String Y) ℕ → List ℕ → Type 0
IsCountedOnce before after name = (other : List ℕ) → counted after other ≡ cond (bytes_eq name other) (next (counted before name)) (counted before other)
