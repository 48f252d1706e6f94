-- The running width of a text: how far a cursor has moved over it. A tab moves it two columns on, a backspace one back.
use Rattle.std.specs.Prelude.{◌≡◌, ℕ, ◌+◌, ◌-◌, ◌≤◌, ◌==◌, Bool, true, List, [], ◌∷◌, length, take, chars, encode_utf8_all, if◌then◌else◌}
use Rattle.std.specs.List.{flat_map, list_any}
use Rattle.std.specs.Str.{IsCharBoundary}
use Rattle.mad_characters.specs.Columns.{char_columns}

-- the columns that a character moves on: two for a tab (9), none for a backspace (8)
abbrev pub columns_on : ℕ → ℕ
columns_on c = if c == 9 then 2 else if c == 8 then 0 else char_columns c

-- the columns that it moves back
abbrev pub columns_back : ℕ → ℕ
columns_back c = if c == 8 then 1 else 0

-- the columns that characters move on, and back
abbrev pub forward : List ℕ → ℕ
forward [] = 0
forward (c ∷ cs) = columns_on c + forward cs

-- the columns that characters move back
abbrev pub backward : List ℕ → ℕ
backward [] = 0
backward (c ∷ cs) = columns_back c + backward cs

-- the running width of characters; 0 where it is negative
abbrev pub running_width : List ℕ → ℕ
running_width cs = forward cs - backward cs

-- the running width of each front of the characters is at most `cols`
abbrev pub StaysWithin : ℕ → List ℕ → Type 0
StaysWithin cols cs = (n : ℕ) → forward (take n cs) ≤ cols + backward (take n cs)

-- the longest front of the characters that stays within `cols`
pub record IsLongestFront (cols : ℕ) (front cs : List ℕ) : Type 0 where
  pub is_front : front ≡ take (length front) cs
  pub within : StaysWithin cols front
  pub longest : (n : ℕ) → StaysWithin cols (take n cs) → length (take n cs) ≤ length front

-- The first `bytes` bytes of the text are its longest front that stays within `cols`, and `width` is its running width.
pub record IsFit (text : List ℕ) (cols bytes width : ℕ) : Type 0 where
  pub border : IsCharBoundary text bytes
  pub longest : IsLongestFront cols (chars (take bytes text)) (chars text)
  pub counts : width ≡ running_width (chars (take bytes text))

-- ---- tabs

-- whether a tab is among the characters
abbrev pub has_tab : List ℕ → Bool
has_tab cs = list_any (λ c. c == 9) cs

-- each tab replaced by two spaces
abbrev pub tabs_replaced : List ℕ → List ℕ
tabs_replaced cs = flat_map (λ c. if c == 9 then 32 ∷ 32 ∷ [] else c ∷ []) cs

-- `shown` is the longest front of the text that stays within `cols`, its tabs replaced, and `width` is its running width.
pub record IsCropped (text : List ℕ) (cols : ℕ) (shown : List ℕ) (width : ℕ) : Type 0 where
  pub front : List ℕ
  pub longest : IsLongestFront cols front (chars text)
  pub replaced : shown ≡ encode_utf8_all (tabs_replaced front)
  pub counts : width ≡ running_width front

-- a tab is in the longest front of the text that stays within `cols`
abbrev pub HasTabWithin : List ℕ → ℕ → Type 0
HasTabWithin text cols = (front : List ℕ) × IsLongestFront cols front (chars text) × (has_tab front ≡ true)
