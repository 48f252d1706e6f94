-- The rows of a line, in the subject's own words: lists of flagged characters.
use Rattle.std.specs.Prelude.{◌≡◌, ℕ, ◌+◌, ◌<◌, ◌≤◌, Bool, true, ◌&&◌, nat_le, not, List, [], ◌∷◌, ◌++◌, map, length, if◌then◌else◌}
use Rattle.std.specs.List.{AllByRecursion, flat_map, list_all}
use Rattle.mad_characters.specs.Columns.{char_columns}
use Rattle.mad_md.specs.Flagged.{FlaggedChar, is_blank}
use Rattle.mad_measure.specs.TextColumns.{width_of}
use Rattle.mad_wrap.specs.Breaks.{LineAndGap, EndsWithLine, lines_and_gaps}
use Rattle.mad_wrap.specs.Keeps.{Keeps, AllWhite}
use Rattle.mad_wrap.specs.Rooms.{token_limit}
use Rattle.mad_wrap.specs.WrapLines.{HasRoom, LinesFit}
use Rattle.mad_wrap.specs.declared.room.Room.{Room}

-- pieces of a text, joined
abbrev pub whole : List (List FlaggedChar) → List FlaggedChar
whole ts = flat_map (λ t. t) ts

-- a character goes on with a token: both are blank or neither is, and together they are within the limit
abbrev pub goes_on : ℕ → List FlaggedChar → FlaggedChar → Bool
goes_on limit [] y = true
goes_on limit (x ∷ xs) y = (if is_blank x then is_blank y else not (is_blank y)) && nat_le (width_of (x ∷ xs) + char_columns y.char) limit

-- the tokens of a part, of which the first one has begun
abbrev pub tokens_from : ℕ → List FlaggedChar → List FlaggedChar → List (List FlaggedChar)
tokens_from limit [] [] = []
tokens_from limit (x ∷ xs) [] = (x ∷ xs) ∷ []
tokens_from limit token (y ∷ ys) = if goes_on limit token y then tokens_from limit (token ++ y ∷ []) ys else token ∷ tokens_from limit (y ∷ []) ys

-- the tokens of a line's parts, as they are cut for this room
abbrev pub tokens_of : Room → List (List FlaggedChar) → List (List FlaggedChar)
tokens_of r parts = flat_map (tokens_from (token_limit r) []) parts

-- the pieces of a word: the word if it is no wider than the limit, else each of its tokens
abbrev pub pieces_of_word : ℕ → List (List FlaggedChar) → List (List FlaggedChar)
pieces_of_word limit [] = []
pieces_of_word limit (t ∷ ts) = if nat_le (width_of (whole (t ∷ ts))) limit then whole (t ∷ ts) ∷ [] else t ∷ ts

-- the pieces of tokens, after a word of which these have begun: a word is tokens in a row that aren't blank, of one part or of several
abbrev pub pieces_from : ℕ → List (List FlaggedChar) → List (List FlaggedChar) → List (List FlaggedChar)
pieces_from limit word [] = pieces_of_word limit word
pieces_from limit word (t ∷ ts) = if list_all is_blank t then pieces_of_word limit word ++ (t ∷ pieces_from limit [] ts) else pieces_from limit (word ++ t ∷ []) ts

-- What isn't parted of a line: its tokens, or where words stay whole its blank tokens, its words, and the tokens of a word that is wider than a line.
abbrev pub pieces_of_line : Room → List (List FlaggedChar) → List (List FlaggedChar)
pieces_of_line r parts = if r.whole_words then pieces_from (token_limit r) [] (tokens_of r parts) else tokens_of r parts

-- A fitting break of a line: its pieces in order on lines that fit, with only blanks dropped, and these between two lines.
pub record IsFittingBreak (r : Room) (parts : List (List FlaggedChar)) (breaks : List (LineAndGap (List FlaggedChar))) : Type 0 where
  pub some : 0 < length breaks
  pub covers : lines_and_gaps breaks ≡ pieces_of_line r parts
  pub fits : LinesFit r.first r (map (λ p. whole p.line) breaks)
  pub dropped : AllByRecursion (λ p. AllByRecursion (λ x. is_blank x ≡ true) (whole p.gap)) breaks
  pub ends : EndsWithLine breaks

-- The rows are lines of a line's pieces in order, at least one, with only whitespace dropped after each.
pub record AreBroken (r : Room) (parts rows : List (List FlaggedChar)) : Type 0 where
  pub breaks : List (LineAndGap (List FlaggedChar))
  pub some : 0 < length breaks
  pub covers : lines_and_gaps breaks ≡ pieces_of_line r parts
  pub rows_are : map (λ p. whole p.line) breaks ≡ rows
  pub dropped : AllByRecursion (λ p. AllWhite (whole p.gap)) breaks

-- The rows of a line: they keep its characters but whitespace at breaks and ends, they part no piece, they fit where there is room, and no
-- fitting break has fewer lines. A line that fits is its one row, whole. With room, and where the line has parts and none is empty, no row is.
pub record AreRowsOf (r : Room) (parts rows : List (List FlaggedChar)) : Type 0 where
  pub keeps : Keeps (whole parts) rows
  pub broken : AreBroken r parts rows
  pub alone : r.first + width_of (whole parts) ≤ r.width → rows ≡ whole parts ∷ []
  pub fits : HasRoom r (whole parts) → LinesFit r.first r rows
  pub filled : HasRoom r (whole parts) → 0 < length parts → AllByRecursion (λ p. 0 < length p) parts → AllByRecursion (λ row. 0 < length row) rows
  pub least : (breaks : List (LineAndGap (List FlaggedChar))) → IsFittingBreak r parts breaks → length rows ≤ length breaks
