-- Lines and starts that are made of placed tokens, for the private calls that make them.
use Rattle.std.specs.Prelude.{◌≡◌, ℕ, List, [], ◌∷◌, map}
use Rattle.std.specs.Str.{IsUtf8}
use Rattle.mad_md.specs.Flagged.{Run, run_of, flagged_of}
use Rattle.mad_md.specs.declared.compound.Compound.{Compound}
use Rattle.mad_measure.specs.declared.tokens.Token.{Token}
use Rattle.mad_measure.specs.TextColumns.{width_of}
use Rattle.mad_measure.specs.Tokens.{token_run}
use Rattle.mad_wrap.specs.declared.room.Room.{Room}
use Rattle.mad_wrap.specs.declared.wrapped_line.WrappedLine.{WrappedLine}
use Rattle.mad_wrap.specs.Breaks.{LineAndGap, total_width}
use Rattle.mad_wrap.specs.LineStarts.{starts_of}
use Rattle.mad_wrap.specs.Placings.{IsFirstFit}
use Rattle.mad_wrap.specs.WrapLines.{runs_of, capped}

-- the line says this, in `columns` columns
pub record Holds (runs : List Run) (columns : ℕ) (l : WrappedLine) : Type 0 where
  pub runs_are : runs_of l.compounds.items ≡ runs
  pub columns_are : l.columns ≡ capped columns

-- the line holds these tokens
abbrev pub HoldsTokens : List Token → WrappedLine → Type 0
HoldsTokens ts l = Holds (map token_run ts) (total_width ts) l

-- each line holds its tokens of the break
abbrev pub HoldBreak : List (LineAndGap Token) → List WrappedLine → Type 0
HoldBreak [] [] = Unit {0}
HoldBreak (p ∷ ps) (l ∷ ls) = HoldsTokens p.line l × HoldBreak ps ls
HoldBreak _ _ = ⊥

-- the tokens are on these lines, by first fit
pub record ArePlacedLines (r : Room) (ts : List Token) (lines : List WrappedLine) : Type 0 where
  pub breaks : List (LineAndGap Token)
  pub first_fit : IsFirstFit r ts breaks
  pub holds : HoldBreak breaks lines

-- these are the starts of the lines that the tokens are on, by first fit
pub record ArePlacedStarts (r : Room) (ts : List Token) (starts : List ℕ) : Type 0 where
  pub breaks : List (LineAndGap Token)
  pub first_fit : IsFirstFit r ts breaks
  pub starts_are : starts ≡ starts_of breaks

-- two lines hold a compound each
pub record AreTwoLines (front back : Compound) (lines : List WrappedLine) : Type 0 where
  pub first : WrappedLine
  pub second : WrappedLine
  pub lines_are : lines ≡ first ∷ second ∷ []
  pub holds_first : Holds (run_of front ∷ []) (width_of (flagged_of front)) first
  pub holds_second : Holds (run_of back ∷ []) (width_of (flagged_of back)) second
  pub first_utf8 : IsUtf8 front.src.now
  pub second_utf8 : IsUtf8 back.src.now
