-- What begins code between fences, and what closes it.
use Rattle.std.specs.Prelude.{◌≡◌, ◌↔◌, ◌⊎◌, ℕ, ◌<◌, ◌≤◌, true, false, ◌==◌, List, ◌++◌, replicate, Some}
use Rattle.std.specs.List.{list_any}
use Rattle.markdown_marks.specs.Marks.{fence_start}
use Rattle.markdown_marks.specs.Remaining.{whole}
use Rattle.markdown_blocks.specs.Leaves.{closes_fence}
use Rattle.markdown_sign_laws.specs.Words.{is_space_or_tab, are_blanks, begins_with}

-- A line is at most three spaces, then at least so many of this sign, and then blanks alone.
pub record ClosesCode (sign length : ℕ) (line : List ℕ) : Type 0 where
  pub indent : ℕ
  pub few : indent < 4
  pub count : ℕ
  pub enough : length ≤ count
  pub behind : List ℕ
  pub blank : are_blanks behind ≡ true
  pub whole : line ≡ replicate indent 32 ++ (replicate count sign ++ behind)

-- A line closes code of a fence of so many signs, one at least and none of them a blank, exactly where it is so.
abbrev pub ClosingIsSaid : Type 0
ClosingIsSaid = (sign length : ℕ) (line : List ℕ) → is_space_or_tab sign ≡ false → 0 < length → (closes_fence sign length (whole line) ≡ true) ↔ ClosesCode sign length line

-- Bytes are so many of this sign, three at least, and an info: backquotes, and no further one in the line, or tildes and no further one right behind them.
pub record IsFence (sign length : ℕ) (bytes : List ℕ) : Type 0 where
  pub enough : 3 ≤ length
  pub info : List ℕ
  pub of_sign : ((sign ≡ 96) × (list_any (λ b. b == 96) info ≡ false)) ⊎ ((sign ≡ 126) × (begins_with 126 info ≡ false))
  pub whole : bytes ≡ replicate length sign ++ info

-- A line, behind at most three spaces, begins code with such a fence exactly where it is so.
abbrev pub FencesAreSaid : Type 0
FencesAreSaid = (sign length : ℕ) (bytes : List ℕ) → (fence_start bytes ≡ Some (record { sign = sign; length = length })) ↔ IsFence sign length bytes
