-- The marks of the characters of a row, and its parts of one mark each.
use Rattle.std.specs.Prelude.{ℕ, ◌+◌, ◌==◌, Bool, not, ◌&&◌, List, [], ◌∷◌, map, length, if◌then◌else◌}
use Rattle.std.specs.List.{filter}
use Rattle.std.specs.Char.{is_whitespace}
use Rattle.mad_md.specs.Flagged.{Flags, FlaggedChar}
use Rattle.mad_mark_runs.specs.Marks.{value_at, blank_value}
use Rattle.mad_mark_runs.specs.declared.mark_runs.MarkRun.{MarkRun}

-- what is counted: characters that have these flags, whitespace apart
abbrev pub is_counted : (Flags → Bool) → FlaggedChar → Bool
is_counted has c = has c.flags && not (is_whitespace c.char)

-- how many of a text
abbrev pub counted : (Flags → Bool) → List FlaggedChar → ℕ
counted has cs = length (filter (is_counted has) cs)

-- the number of the first counted character of each of these texts, the first of which begins at that number
abbrev pub firsts : (Flags → Bool) → ℕ → List (List FlaggedChar) → List ℕ
firsts has n [] = []
firsts has n (row ∷ rows) = n ∷ firsts has (n + counted has row) rows

-- a character with its mark
pub record MarkedChar : Type 0 where
  pub value : ℕ
  pub char : FlaggedChar

-- the mark of a character, where `n` counted characters are before it
abbrev pub mark_of : (Flags → Bool) → List MarkRun → ℕ → FlaggedChar → ℕ
mark_of has runs n c = if has c.flags then (if is_whitespace c.char then blank_value runs n else value_at runs n) else 0

-- a text with its marks, where `n` counted characters are before it
abbrev pub marked : (Flags → Bool) → List MarkRun → ℕ → List FlaggedChar → List MarkedChar
marked has runs n [] = []
marked has runs n (c ∷ cs) = record { value = mark_of has runs n c; char = c } ∷ marked has runs (if is_counted has c then n + 1 else n) cs

-- the rows of a text, each with its marks
abbrev pub marked_rows : (Flags → Bool) → List MarkRun → ℕ → List (List FlaggedChar) → List (List MarkedChar)
marked_rows has runs n [] = []
marked_rows has runs n (row ∷ rows) = marked has runs n row ∷ marked_rows has runs (n + counted has row) rows

-- its counted characters
abbrev pub counted_marked : (Flags → Bool) → List MarkedChar → List MarkedChar
counted_marked has cs = filter (λ c. is_counted has c.char) cs

-- characters of one mark
pub record MarkPart : Type 0 where
  pub value : ℕ
  pub chars : List FlaggedChar

-- a character in front of parts: it joins the first if that has its mark
abbrev pub with_char : MarkedChar → List MarkPart → List MarkPart
with_char c [] = record { value = c.value; chars = c.char ∷ [] } ∷ []
with_char c (p ∷ ps) = if c.value == p.value then record { value = p.value; chars = c.char ∷ p.chars } ∷ ps else record { value = c.value; chars = c.char ∷ [] } ∷ (p ∷ ps)

-- a text cut at changes of its marks
abbrev pub parts_of : List MarkedChar → List MarkPart
parts_of [] = []
parts_of (c ∷ cs) = with_char c (parts_of cs)

-- the characters of a part, each with the part's mark
abbrev pub chars_of : MarkPart → List MarkedChar
chars_of p = map (λ c. record { value = p.value; char = c }) p.chars

-- counted characters, each with the mark of its number, the first of which is given
abbrev pub numbered : List MarkRun → ℕ → List FlaggedChar → List MarkedChar
numbered runs n [] = []
numbered runs n (c ∷ cs) = record { value = value_at runs n; char = c } ∷ numbered runs (n + 1) cs
