-- Breaking a list of tokens into lines: a list of lines, each with the gap that is dropped after it.
use Rattle.std.specs.Prelude.{◌≡◌, ℕ, ◌+◌, ◌<◌, ◌≤◌, true, List, [], ◌∷◌, ◌++◌, length}
use Rattle.std.specs.List.{AllByRecursion}
use Rattle.mad_measure.specs.declared.tokens.Token.{Token}
use Rattle.mad_wrap.specs.declared.room.Room.{Room}

-- a line, and what is dropped after it
pub record LineAndGap (A : Type 0) : Type 0 where
  pub line : List A
  pub gap : List A

-- line, gap, line, gap, ..
abbrev pub lines_and_gaps : {A : Type 0} → List (LineAndGap A) → List A
lines_and_gaps [] = []
lines_and_gaps (p ∷ ps) = p.line ++ (p.gap ++ lines_and_gaps ps)

-- the columns that tokens take
abbrev pub total_width : List Token → ℕ
total_width [] = 0
total_width (t ∷ ts) = t.width + total_width ts

-- only blank tokens
abbrev pub AllBlank : List Token → Type 0
AllBlank ts = AllByRecursion (λ t. t.blank ≡ true) ts

-- A line with this indent fits, and so do the lines after it. Only blank tokens are dropped.
abbrev pub FitsFrom : ℕ → Room → List (LineAndGap Token) → Type 0
FitsFrom indent r [] = Unit {0}
FitsFrom indent r (p ∷ ps) = (indent + total_width p.line ≤ r.width) × AllBlank p.gap × FitsFrom r.other r ps

-- nothing is dropped after the last line
abbrev pub EndsWithLine : {A : Type 0} → List (LineAndGap A) → Type 0
EndsWithLine [] = Unit {0}
EndsWithLine (p ∷ []) = p.gap ≡ []
EndsWithLine (p ∷ q ∷ ps) = EndsWithLine (q ∷ ps)

-- A trimming break: the tokens in order as lines and gaps, at least one line, each line fitting. Blanks are dropped between lines,
-- and may be dropped after the last.
pub record TrimmingBreak (r : Room) (ts : List Token) (breaks : List (LineAndGap Token)) : Type 0 where
  pub some_line : 0 < length breaks
  pub covers : lines_and_gaps breaks ≡ ts
  pub fits : FitsFrom r.first r breaks

-- A fitting break: the same, but blanks are dropped between lines only.
pub record FittingBreak (r : Room) (ts : List Token) (breaks : List (LineAndGap Token)) : Type 0 where
  pub trimming : TrimmingBreak r ts breaks
  pub ends : EndsWithLine breaks
