-- What thematic breaks are.
use Rattle.std.specs.Prelude.{◌≡◌, ◌↔◌, ◌⊎◌, ℕ, ◌≤◌, true, List, [], ◌∷◌, ◌++◌, length}
use Rattle.std.specs.List.{list_all}
use Rattle.markdown_marks.specs.Marks.{is_rule}
use Rattle.markdown_sign_laws.specs.Words.{are_blanks}

-- one sign after the other, each with these bytes behind it
abbrev pub spread : ℕ → List (List ℕ) → List ℕ
spread sign [] = []
spread sign (bytes ∷ others) = sign ∷ (bytes ++ spread sign others)

-- Bytes are three or more of one of the signs *, - and _, each with blanks behind it or nothing.
pub record IsBreak (bytes : List ℕ) : Type 0 where
  pub sign : ℕ
  pub of_sign : (sign ≡ 42) ⊎ ((sign ≡ 45) ⊎ (sign ≡ 95))
  pub gaps : List (List ℕ)
  pub enough : 3 ≤ length gaps
  pub blank : list_all are_blanks gaps ≡ true
  pub whole : bytes ≡ spread sign gaps

-- A line, behind at most three spaces, is a thematic break exactly where it is so.
abbrev pub BreaksAreSaid : Type 0
BreaksAreSaid = (bytes : List ℕ) → (is_rule bytes ≡ true) ↔ IsBreak bytes
