-- Fronts of spaces and graphic ASCII characters.
use Rattle.std.specs.Prelude.{ℕ, ◌<◌, List, get_or}

-- the first so many bytes are spaces or graphic ASCII characters
abbrev pub ArePlain : List ℕ → ℕ → Type 0
ArePlain bs n = (k : ℕ) → k < n → (31 < get_or bs k 0) × (get_or bs k 0 < 127)
