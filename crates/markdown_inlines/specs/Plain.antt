-- Texts that go on with what is shown of others.
use Rattle.std.specs.Prelude.{◌≡◌, ℕ, ◌+◌, ◌*◌, ◌<◌, ◌≤◌, ◌==◌, List, ◌++◌, length, map, get_or, chars, if◌then◌else◌}
use Rattle.std.specs.Int.{w64, trailing_zeros}
use Rattle.std.specs.Str.{IsUtf8}
use Rattle.markdown_inlines.specs.Printable.{shown_char}

-- a space or a graphic ASCII character
abbrev pub IsPlain : ℕ → Type 0
IsPlain b = (31 < b) × (b < 127)

-- the bytes from one up to another are plain
abbrev pub ArePlain : List ℕ → ℕ → ℕ → Type 0
ArePlain bs at end = (k : ℕ) → at ≤ k → k < end → IsPlain (get_or bs k 0)

-- the place of the lowest bit that is set, or n
abbrev pub first_set : ℕ → ℕ → ℕ
first_set mask n = if mask == 0 then n else trailing_zeros w64 mask

-- The new text is the old one, and behind it what is shown of a text up to the rest of it.
pub record IsShownUpTo (old new text rest : List ℕ) : Type 0 where
  pub added : List ℕ
  pub bytes : new ≡ old ++ added
  pub utf8 : IsUtf8 added
  pub left : IsUtf8 rest
  pub many : length text ≤ length rest + 4 * length added
  pub shown : chars added ++ map shown_char (chars rest) ≡ map shown_char (chars text)
