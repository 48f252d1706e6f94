-- Bytes that are no marks and no ends of lines.
use Rattle.std.specs.Prelude.{◌≡◌, ℕ, ◌<◌, ◌≤◌, ◌+◌, ◌-◌, ◌==◌, ◌||◌, ◌&&◌, not, nat_le, Bool, true, List, drop, get_or, None, if◌then◌else◌}
use Rattle.std.specs.Int.{w64, trailing_zeros}
use Rattle.markdown_marks.specs.Bytes.{first}
use Rattle.markdown_addresses.specs.Bare.{web_of}

-- none of ` * _ ~ \ & < [ ] !, and no end of a line
abbrev pub stands : ℕ → Bool
stands b = not ((b == 96) || (b == 42) || (b == 95) || (b == 126) || (b == 92) || (b == 38) || (b == 60) || (b == 91) || (b == 93) || (b == 33) || (b == 10))

-- so are the bytes from one place up to another
abbrev pub AreStanding : List ℕ → ℕ → ℕ → Type 0
AreStanding bytes at end = (k : ℕ) → at ≤ k → k < end → stands (get_or bytes k 0) ≡ true

-- the place of the lowest bit that is set, or n
abbrev pub first_set : ℕ → ℕ → ℕ
first_set mask n = if mask == 0 then n else trailing_zeros w64 mask

-- no address of the web begins at any place
abbrev pub HasNoWeb : List ℕ → Type 0
HasNoWeb text = (k : ℕ) → web_of (drop k text) ≡ None

-- the byte is a letter w, in any case
abbrev pub is_w : ℕ → Bool
is_w b = (b == 119) || (b == 87)

-- what each address of the web has: a colon before a slash, or a period behind two letters w
abbrev pub sign_at : List ℕ → ℕ → Bool
sign_at text at = ((get_or text at 0 == 58) && (first (drop (at + 1) text) == 47)) || ((get_or text at 0 == 46) && (nat_le 2 at && (is_w (get_or text (at - 1) 0) && is_w (get_or text (at - 2) 0))))

-- neither a colon nor a period
abbrev pub is_signless : ℕ → Bool
is_signless b = not ((b == 58) || (b == 46))

-- the bytes from one place up to another are no colons and no periods
abbrev pub AreSignless : List ℕ → ℕ → ℕ → Type 0
AreSignless bytes at end = (k : ℕ) → at ≤ k → k < end → is_signless (get_or bytes k 0) ≡ true
