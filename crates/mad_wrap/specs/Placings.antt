-- Placing tokens on lines one after the other.
use Rattle.std.specs.Prelude.{◌≡◌, ℕ, ◌+◌, ◌<◌, ◌≤◌, false, List, [], ◌∷◌, map, length}
use Rattle.mad_md.specs.Flagged.{FlaggedChar, Run}
use Rattle.mad_measure.specs.Tokens.{token_run, tokens_text}
use Rattle.mad_measure.specs.declared.tokens.Token.{Token}
use Rattle.mad_wrap.specs.Breaks.{LineAndGap, lines_and_gaps, total_width, AllBlank}
use Rattle.mad_wrap.specs.declared.room.Room.{Room}

-- each gap is blank, and one that isn't empty begins with a token that doesn't fit after its line
abbrev pub GapsForced : ℕ → Room → List (LineAndGap Token) → Type 0
GapsForced indent r [] = Unit {0}
GapsForced indent r (p ∷ ps) = AllBlank p.gap × ((t : Token) (others : List Token) → p.gap ≡ t ∷ others → r.width < indent + total_width p.line + t.width) × GapsForced r.other r ps

-- The tokens are placed in order, at least on one line. Only blanks are dropped, and these only after a line that is full.
pub record IsPlacing (r : Room) (ts : List Token) (breaks : List (LineAndGap Token)) : Type 0 where
  pub some_line : 0 < length breaks
  pub covers : lines_and_gaps breaks ≡ ts
  pub gaps : GapsForced r.first r breaks

-- a line begins with a token that isn't blank, and that doesn't fit after the line before it with what is dropped between them
pub record BeginsAfter (indent : ℕ) (r : Room) (before p : LineAndGap Token) : Type 0 where
  pub first : Token
  pub others : List Token
  pub begins : p.line ≡ first ∷ others
  pub solid : first.blank ≡ false
  pub passes : r.width < indent + total_width before.line + total_width before.gap + first.width

-- each line but the first begins so
abbrev pub LinesForced : ℕ → Room → List (LineAndGap Token) → Type 0
LinesForced indent r [] = Unit {0}
LinesForced indent r (p ∷ []) = Unit {0}
LinesForced indent r (p ∷ q ∷ ps) = BeginsAfter indent r p q × LinesForced r.other r (q ∷ ps)

-- each line fits, or has at most `placed` tokens: none on the first line, and on another the one that it begins with
abbrev pub LinesWithin : ℕ → ℕ → Room → List (LineAndGap Token) → Type 0
LinesWithin placed indent r [] = Unit {0}
LinesWithin placed indent r (p ∷ ps) = (placed < length p.line → indent + total_width p.line ≤ r.width) × LinesWithin 1 r.other r ps

-- First fit: a placing in which no line ends before it must, and none goes on past the width. There is one.
pub record IsFirstFit (r : Room) (ts : List Token) (breaks : List (LineAndGap Token)) : Type 0 where
  pub placing : IsPlacing r ts breaks
  pub forced : LinesForced r.first r breaks
  pub within : LinesWithin 0 r.first r breaks

-- these texts are the lines of a placing
pub record ArePlaced (r : Room) (ts : List Token) (texts : List (List FlaggedChar)) : Type 0 where
  pub breaks : List (LineAndGap Token)
  pub placing : IsPlacing r ts breaks
  pub texts_are : map (λ p. tokens_text p.line) breaks ≡ texts

-- these runs are the lines of the first fit, a run for each token
pub record AreFirstFit (r : Room) (ts : List Token) (lines : List (List Run)) : Type 0 where
  pub breaks : List (LineAndGap Token)
  pub first_fit : IsFirstFit r ts breaks
  pub runs_are : map (λ p. map token_run p.line) breaks ≡ lines
