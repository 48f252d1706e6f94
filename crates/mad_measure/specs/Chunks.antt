-- Runs of spaces and graphic ASCII characters, and the bytes in them that no token goes past.
use Rattle.std.specs.Prelude.{◌≡◌, ◌≢◌, ℕ, ◌-◌, ◌<◌, ◌≤◌, ◌⊎◌, ◌==◌, Bool, false, List, length, get_or, if◌then◌else◌}
use Rattle.std.specs.Int.{w64, trailing_zeros}

-- a space or a graphic ASCII character
abbrev pub IsPlain : ℕ → Type 0
IsPlain b = (31 < b) × (b < 127)

-- the bytes from one up to another are plain
abbrev pub ArePlain : List ℕ → ℕ → ℕ → Type 0
ArePlain bs at end = (k : ℕ) → at ≤ k → k < end → IsPlain (get_or bs k 0)

-- whether there is a space
abbrev pub is_space_at : List ℕ → ℕ → Bool
is_space_at bs k = get_or bs k 0 == 32

-- Blankness changes there between plain bytes: of the byte before it and its own, one is a space and one is graphic.
abbrev pub Changes : List ℕ → ℕ → Type 0
Changes bs end = is_space_at bs (end - 1) ≢ is_space_at bs end

-- It doesn't change at any byte after this one, up to a limit, that has plain bytes behind it.
abbrev pub AreSteady : List ℕ → ℕ → ℕ → ℕ → Type 0
AreSteady bs from last plain = (k : ℕ) → from < k → k ≤ last → k < plain → is_space_at bs (k - 1) ≡ is_space_at bs k

-- A token that begins in the plain bytes in front of this byte ends there at the latest.
abbrev pub IsBorder : List ℕ → Bool → ℕ → Type 0
IsBorder bs code end = (end ≡ length bs) ⊎ ((code ≡ false) × (end < length bs) × IsPlain (get_or bs end 0) × Changes bs end)

-- plain bytes up to such a byte
pub record IsChunk (bs : List ℕ) (code : Bool) (at end : ℕ) : Type 0 where
  pub within : end ≤ length bs
  pub plain : ArePlain bs at end
  pub ends : IsBorder bs code end

-- the place of the lowest bit that is set, or n
abbrev pub first_set : ℕ → ℕ → ℕ
first_set mask n = if mask == 0 then n else trailing_zeros w64 mask
