-- Wrapping with whole words, with the fewest lines.
use Rattle.std.specs.Prelude.{◌≡◌, ◌<◌, ◌≤◌, Bool, true, false, List, map, length}
use Rattle.std.specs.List.{AllByRecursion}
use Rattle.mad_md.specs.Flagged.{Run, flagged_text}
use Rattle.mad_md.specs.declared.compound.Compound.{Compound}
use Rattle.mad_measure.specs.Tokens.{token_run}
use Rattle.mad_measure.specs.declared.tokens.Token.{Token}
use Rattle.mad_wrap.specs.Breaks.{LineAndGap, lines_and_gaps, TrimmingBreak}
use Rattle.mad_wrap.specs.Keeps.{Keeps}
use Rattle.mad_wrap.specs.LeastWrap.{AreTokensIn, AreTokenized, IsWrap}
use Rattle.mad_wrap.specs.Placings.{ArePlaced, IsFirstFit}
use Rattle.mad_wrap.specs.Rooms.{token_limit}
use Rattle.mad_wrap.specs.Words.{Piece, as_token, pieces_of, token_break, piece_break}
use Rattle.mad_wrap.specs.WrapLines.{runs_of, HasRoom, LinesFit, NoneEmpty, IsMadeOf}
use Rattle.mad_wrap.specs.declared.room.Room.{Room}

-- these runs are the lines of the first fit of the pieces, a run for each token
pub record ArePieceFit (r : Room) (pieces : List Piece) (lines : List (List Run)) : Type 0 where
  pub breaks : List (LineAndGap Piece)
  pub covers : lines_and_gaps breaks ≡ pieces
  pub first_fit : IsFirstFit r (map as_token pieces) (piece_break breaks)
  pub runs_are : map (λ p. map token_run p.line) (token_break breaks) ≡ lines

-- The lines are the first fit of the tokens' pieces, and no fitting break between pieces has fewer.
pub record IsLeastWordBreak (r : Room) (ps : List Compound) (ts : List Token) (lines : List (List Compound)) : Type 0 where
  -- each compound is one of the source or a token of one
  pub parts : AllByRecursion (IsMadeOf ps ts) lines
  -- only blank tokens are dropped, and these only after a line that is full
  pub placed : ArePlaced r ts (map flagged_text lines)
  -- each token is a compound of its own, on the line on which first fit places its piece
  pub first_fit : ArePieceFit r (pieces_of (token_limit r) ts) (map runs_of lines)
  -- no break that parts no piece and fits has fewer lines, nor one that drops blanks after its last line too
  pub least : (breaks : List (LineAndGap Piece)) → lines_and_gaps breaks ≡ pieces_of (token_limit r) ts → TrimmingBreak r ts (token_break breaks) → length lines ≤ length breaks

-- The lines are the compounds wrapped in this room, words whole.
pub record IsWordWrap (r : Room) (ps : List Compound) (lines : List (List Compound)) : Type 0 where
  -- no character is lost but whitespace between lines and after the last
  pub keeps : Keeps (flagged_text ps) (map flagged_text lines)
  -- with room each line fits
  pub fits : HasRoom r (flagged_text ps) → LinesFit r.first r (map flagged_text lines)
  -- with room each line has a character
  pub some : HasRoom r (flagged_text ps) → AllByRecursion (λ l. 0 < length (flagged_text l)) lines
  -- no compound is empty
  pub none_empty : AllByRecursion NoneEmpty lines
  -- the text has tokens, and only these
  pub tokenized : AreTokenized r ps
  -- with them the lines are a least break between pieces
  pub least : (ts : List Token) → AreTokensIn r ps ts → IsLeastWordBreak r ps ts lines

-- with whole words or without
abbrev pub IsWrapBy : Bool → Room → List Compound → List (List Compound) → Type 0
IsWrapBy true r ps lines = IsWordWrap r ps lines
IsWrapBy false r ps lines = IsWrap r ps lines

-- The lines are the compounds wrapped as the room asks.
abbrev pub IsWrapOf : Room → List Compound → List (List Compound) → Type 0
IsWrapOf r ps lines = IsWrapBy r.whole_words r ps lines
