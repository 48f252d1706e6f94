-- Wrapping with the fewest lines: the lines of a text that doesn't fit, each a list of compounds.
use Rattle.std.specs.Prelude.{◌≡◌, ◌<◌, ◌≤◌, false, List, [], ◌∷◌, map, length, Some}
use Rattle.std.specs.List.{AllByRecursion}
use Rattle.mad_md.specs.Flagged.{run_of, flagged_text}
use Rattle.mad_md.specs.declared.compound.Compound.{Compound}
use Rattle.mad_measure.specs.Tokens.{AreTokensOf}
use Rattle.mad_measure.specs.declared.tokens.Token.{Token}
use Rattle.mad_wrap.specs.Breaks.{LineAndGap, FittingBreak, TrimmingBreak}
use Rattle.mad_wrap.specs.CleanCut.{clean_cut, is_cut_clean, drops_middle}
use Rattle.mad_wrap.specs.Keeps.{Keeps}
use Rattle.mad_wrap.specs.Placings.{ArePlaced, AreFirstFit}
use Rattle.mad_wrap.specs.Rooms.{token_limit}
use Rattle.mad_wrap.specs.WrapLines.{runs_of, HasRoom, LinesFit, NoneEmpty, IsMadeOf}
use Rattle.mad_wrap.specs.declared.room.Room.{Room}

-- the tokens of compounds, as they are cut for lines with this room
abbrev pub AreTokensIn : Room → List Compound → List Token → Type 0
AreTokensIn r ps ts = AreTokensOf (token_limit r) ps ts

-- there are tokens of the compounds, and only these
pub record AreTokenized (r : Room) (ps : List Compound) : Type 0 where
  pub tokens : List Token
  pub cut : AreTokensIn r ps tokens
  pub only : (ts : List Token) → AreTokensIn r ps ts → ts ≡ tokens

-- The lines are the first fit of the compounds' tokens, or a clean cut, and no fitting break has fewer.
pub record IsLeastBreak (r : Room) (ps : List Compound) (ts : List Token) (lines : List (List Compound)) : Type 0 where
  -- each compound is one of the source or a token of one
  pub parts : AllByRecursion (IsMadeOf ps ts) lines
  -- but where a clean cut drops a middle, only blank tokens are dropped, and these only after a line that is full
  pub placed : drops_middle r ps ≡ false → ArePlaced r ts (map flagged_text lines)
  -- where the text isn't cut clean, each token is a compound of its own, on the line on which first fit places it
  pub first_fit : is_cut_clean r ps ≡ false → AreFirstFit r ts (map runs_of lines)
  -- no fitting break has fewer lines
  pub least : (breaks : List (LineAndGap Token)) → FittingBreak r ts breaks → length lines ≤ length breaks
  -- nor has one that drops blanks after its last line too, but where the text is cut clean
  pub least_trimming : is_cut_clean r ps ≡ false → (breaks : List (LineAndGap Token)) → TrimmingBreak r ts breaks → length lines ≤ length breaks

-- The lines are the compounds wrapped in this room.
pub record IsWrap (r : Room) (ps : List Compound) (lines : List (List Compound)) : Type 0 where
  -- no character is lost but whitespace between lines and after the last
  pub keeps : Keeps (flagged_text ps) (map flagged_text lines)
  -- with room each line fits
  pub fits : HasRoom r (flagged_text ps) → LinesFit r.first r (map flagged_text lines)
  -- with room, and where no compound is empty, each line has a character
  pub some : HasRoom r (flagged_text ps) → NoneEmpty ps → AllByRecursion (λ l. 0 < length (flagged_text l)) lines
  -- no compound is empty where none of the source is
  pub none_empty : NoneEmpty ps → AllByRecursion NoneEmpty lines
  -- a clean cut is two lines of a compound each
  pub cut : (front back : Compound) → clean_cut r ps ≡ Some (front, back) → map runs_of lines ≡ (run_of front ∷ []) ∷ (run_of back ∷ []) ∷ []
  -- the text has tokens, and only these
  pub tokenized : AreTokenized r ps
  -- with them the lines are a least break
  pub least : (ts : List Token) → AreTokensIn r ps ts → IsLeastBreak r ps ts lines
