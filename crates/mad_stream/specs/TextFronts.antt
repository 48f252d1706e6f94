-- Bytes that begin with a text.
use Rattle.std.specs.Prelude.{◌≡◌, ◌<◌, ◌≤◌, ℕ, List, ◌++◌, length, take, IsUtf8}

-- The text is the longest front of the bytes that is UTF-8.
pub record IsTextFront (bytes text : List ℕ) : Type 0 where
  pub rest : List ℕ
  pub joins : bytes ≡ text ++ rest
  pub utf8 : IsUtf8 text
  pub longest : (n : ℕ) → length text < n → n ≤ length bytes → ¬ (IsUtf8 (take n bytes))

-- no text begins with these bytes, whatever comes after them
abbrev pub BeginNoText : List ℕ → Type 0
BeginNoText bytes = (more : List ℕ) → ¬ (IsUtf8 (bytes ++ more))
