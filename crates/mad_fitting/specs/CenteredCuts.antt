-- A cut in the middle of characters.
use Rattle.std.specs.Prelude.{◌≡◌, ℕ, ◌+◌, ◌-◌, ◌/◌, ◌<◌, ◌≤◌, ◌⊎◌, List, ◌++◌, length, chars, take, drop, slice_range}
use Rattle.std.specs.Str.{IsUtf8, IsCharBoundary}
use Rattle.mad_measure.specs.TextColumns.{columns}
use Rattle.mad_fitting.specs.declared.centered.Cut.{Cut}
use Rattle.mad_fitting.specs.declared.centered.Middle.{Middle}

-- The number of the first of `n` characters in the middle: half of all, less each second one of the `n`.
abbrev pub middle_start : ℕ → List ℕ → ℕ
middle_start n cs = length cs / 2 - n / 2

-- `n` characters in the middle
abbrev pub middle : ℕ → List ℕ → List ℕ
middle n cs = take n (drop (middle_start n cs) cs)

-- the characters of a text but the first and the last
abbrev pub inside_chars : List ℕ → List ℕ
inside_chars cs = take (length cs - 2) (drop 1 cs)

-- The cut takes the fewest characters in the middle that have more than so many columns; all but the first and the last, where even
-- these have no more.
pub record IsCenteredCut (excess : ℕ) (text : List ℕ) (cut : Cut) : Type 0 where
  pub count : ℕ
  pub place : length (chars (take cut.start text)) ≡ middle_start count (chars text)
  pub gone : chars (slice_range text cut.start cut.end) ≡ middle count (chars text)
  pub columns_are : cut.columns ≡ columns (middle count (chars text))
  pub fewest : (n : ℕ) → n < count → columns (middle n (chars text)) ≤ excess
  pub stops : (excess < cut.columns) ⊎ (length (chars text) ≤ count + 2)
  pub inside : (count ≡ 0) ⊎ ((0 < cut.start) × (cut.end < length text))
  pub order : cut.start ≤ cut.end
  pub first : IsCharBoundary text cut.start
  pub last : IsCharBoundary text cut.end

-- these are some characters in the middle, by what is on both sides
pub record IsMiddle (m : Middle) : Type 0 where
  pub gone : List ℕ
  pub parts : m.before.now ++ (gone ++ m.after.now) ≡ m.text.now
  pub text : IsUtf8 m.text.now
  pub before : IsUtf8 m.before.now
  pub between : IsUtf8 gone
  pub after : IsUtf8 m.after.now
  pub start : length (chars m.before.now) ≡ middle_start m.count (chars m.text.now)
  pub number : length (chars gone) ≡ m.count
  pub columns_are : m.columns ≡ columns (chars gone)
  pub few : m.count ≤ length gone
  pub narrow : m.columns ≤ length gone
  pub inside : (m.count ≡ 0) ⊎ ((0 < length m.before.now) × (0 < length m.after.now))

-- the same with one character more, which takes at most three columns
pub record GrowsBy (m more : Middle) : Type 0 where
  pub text : more.text ≡ m.text
  pub count : more.count ≡ m.count + 1
  pub most : more.columns ≤ m.columns + 3
