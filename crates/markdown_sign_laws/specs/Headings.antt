-- What begins a heading.
use Rattle.std.specs.Prelude.{◌≡◌, ◌↔◌, ℕ, ◌≤◌, true, List, ◌++◌, replicate, Some}
use Rattle.markdown_marks.specs.Marks.{heading_level}
use Rattle.markdown_sign_laws.specs.Words.{is_apart}

-- Bytes are so many signs #, one to six, and then nothing, or a blank and whatever follows it.
pub record IsHeading (level : ℕ) (bytes : List ℕ) : Type 0 where
  pub some : 1 ≤ level
  pub most : level ≤ 6
  pub behind : List ℕ
  pub apart : is_apart behind ≡ true
  pub whole : bytes ≡ replicate level 35 ++ behind

-- A line, behind at most three spaces, is a heading of this level exactly where it is so.
abbrev pub HeadingsAreSaid : Type 0
HeadingsAreSaid = (level : ℕ) (bytes : List ℕ) → (heading_level bytes ≡ Some level) ↔ IsHeading level bytes
