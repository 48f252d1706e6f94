-- What underlines the text of a heading.
use Rattle.std.specs.Prelude.{◌≡◌, ◌↔◌, ◌⊎◌, ℕ, ◌≤◌, true, List, ◌++◌, replicate, Some}
use Rattle.markdown_marks.specs.Marks.{underline_level}
use Rattle.markdown_sign_laws.specs.Words.{are_blanks}

-- bytes are one or more of this sign, and then blanks alone
pub record IsUnderline (sign : ℕ) (bytes : List ℕ) : Type 0 where
  pub count : ℕ
  pub some : 1 ≤ count
  pub behind : List ℕ
  pub blank : are_blanks behind ≡ true
  pub whole : bytes ≡ replicate count sign ++ behind

-- A line, behind at most three spaces, may underline a heading of level 1 exactly where it is signs =, and one of level 2 exactly where it is hyphens.
abbrev pub UnderlinesAreSaid : Type 0
UnderlinesAreSaid = (level : ℕ) (bytes : List ℕ) → (underline_level bytes ≡ Some level) ↔ (((level ≡ 1) × IsUnderline 61 bytes) ⊎ ((level ≡ 2) × IsUnderline 45 bytes))
