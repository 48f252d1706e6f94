-- Lines that pieces are put on, for the private calls that make them.
use Rattle.std.specs.Prelude.{◌≡◌, ◌+◌, List, [], ◌∷◌, ◌++◌, map}
use Rattle.std.specs.List.{AllByRecursion}
use Rattle.mad_measure.specs.Tokens.{IsInCompound, token_run}
use Rattle.mad_measure.specs.declared.tokens.Token.{Token}
use Rattle.mad_wrap.specs.Breaks.{LineAndGap, lines_and_gaps, total_width}
use Rattle.mad_wrap.specs.FirstFit.{Puts, at_first}
use Rattle.mad_wrap.specs.Placings.{IsFirstFit}
use Rattle.mad_wrap.specs.Rooms.{token_limit}
use Rattle.mad_wrap.specs.TokenLines.{HoldBreak}
use Rattle.mad_wrap.specs.Words.{Piece, piece_tokens, as_token, pieces_of, token_break, piece_break}
use Rattle.mad_wrap.specs.WrapLines.{runs_of, capped}
use Rattle.mad_wrap.specs.declared.first_fit.Put.{Put}
use Rattle.mad_wrap.specs.declared.first_fit.Put.TheVariants.{OnLine, OnNext, InGap}
use Rattle.mad_wrap.specs.declared.placing_words.WordLines.{WordLines}
use Rattle.mad_wrap.specs.declared.room.Room.{Room}
use Rattle.mad_wrap.specs.declared.wrapped_line.WrappedLine.{WrappedLine}

-- each token is whole characters of its compound
abbrev pub AreInCompounds : List Token → Type 0
AreInCompounds ts = AllByRecursion IsInCompound ts

-- a line without text
pub record IsNewLine (l : WrappedLine) : Type 0 where
  pub empty : l.compounds.items ≡ []
  pub columns_are : l.columns ≡ 0

-- the line with these tokens after its others
pub record TakesTokens (old : WrappedLine) (ts : List Token) (new : WrappedLine) : Type 0 where
  pub runs_are : runs_of new.compounds.items ≡ runs_of old.compounds.items ++ map token_run ts
  pub columns_are : new.columns ≡ capped (old.columns + total_width ts)

-- no lines, and a first one without text
pub record IsAtFirst (r : Room) (s : WordLines) : Type 0 where
  pub lines_are : s.lines.items ≡ []
  pub line_is : IsNewLine s.line
  pub fit_is : s.fit ≡ at_first r

-- a new line has begun after the others
pub record BeginsLine (s n : WordLines) : Type 0 where
  pub lines_are : n.lines.items ≡ s.lines.items ++ s.line ∷ []
  pub line_is : IsNewLine n.line
  pub fit_is : n.fit ≡ s.fit

-- The tokens of a piece are put where its token is, and that leaves this.
abbrev pub PutsOn : WordLines → Piece → Put → WordLines → Type 0
PutsOn s p OnLine n = Puts s.fit (as_token p) OnLine n.fit × (n.lines.items ≡ s.lines.items) × TakesTokens s.line (piece_tokens p) n.line
PutsOn s p OnNext n = Puts s.fit (as_token p) OnNext n.fit × (n.lines.items ≡ s.lines.items ++ s.line ∷ []) × (begun : WrappedLine) × IsNewLine begun × TakesTokens begun (piece_tokens p) n.line
PutsOn s p InGap n = Puts s.fit (as_token p) InGap n.fit × (n.lines.items ≡ s.lines.items) × (n.line ≡ s.line)

-- The piece is put.
abbrev pub PutsPiece : WordLines → Piece → WordLines → Type 0
PutsPiece s p n = (put : Put) × PutsOn s p put n

-- The pieces are put, one after the other.
abbrev pub PutsPieces : WordLines → List Piece → WordLines → Type 0
PutsPieces s [] n = n ≡ s
PutsPieces s (p ∷ ps) n = (m : WordLines) × PutsPiece s p m × PutsPieces m ps n

-- the pieces of the tokens are on these lines, by first fit
pub record AreWordLines (r : Room) (ts : List Token) (lines : List WrappedLine) : Type 0 where
  pub breaks : List (LineAndGap Piece)
  pub covers : lines_and_gaps breaks ≡ pieces_of (token_limit r) ts
  pub first_fit : IsFirstFit r (map as_token (pieces_of (token_limit r) ts)) (piece_break breaks)
  pub holds : HoldBreak (token_break breaks) lines
