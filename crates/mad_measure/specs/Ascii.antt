-- Graphic ASCII characters and spaces, which are told by their bytes: a byte each, and a column each.
use Rattle.std.specs.Prelude.{◌≡◌, ℕ, ◌+◌, ◌<◌, ◌&&◌, ◌||◌, ◌==◌, not, Bool, true, nat_le, List, length, get_or}
use Rattle.std.specs.Char.{is_ascii_graphic}

-- `n` bytes from a position on are graphic
abbrev pub AreGraphic : List ℕ → ℕ → ℕ → Type 0
AreGraphic bs start n = (k : ℕ) → k < n → is_ascii_graphic (get_or bs (start + k) 0) ≡ true

-- the first `n` bytes are graphic or spaces
abbrev pub AreSpacesOrGraphic : List ℕ → ℕ → Type 0
AreSpacesOrGraphic bs n = (k : ℕ) → k < n → (31 < get_or bs k 0) × (get_or bs k 0 < 127)

-- the text ends there, or has a space there that isn't code
abbrev pub is_end_of_word : Bool → List ℕ → ℕ → Bool
is_end_of_word code bs end = nat_le (length bs) end || ((get_or bs end 0 == 32) && not code)

-- there is a space that isn't code, and after it a graphic character or the end
abbrev pub is_lone_space : Bool → List ℕ → ℕ → Bool
is_lone_space code bs at = not code && ((get_or bs at 0 == 32) && (nat_le (length bs) (at + 1) || is_ascii_graphic (get_or bs (at + 1) 0)))
