-- Pieces of tokens, for a wrap that keeps words whole. A word is tokens in a row that aren't blank, of one compound or of several.
use Rattle.std.specs.Prelude.{ℕ, List, [], ◌∷◌, ◌++◌, map, nat_le, if◌then◌else◌}
use Rattle.std.specs.List.{flat_map}
use Rattle.mad_measure.specs.declared.tokens.Token.{Token}
use Rattle.mad_wrap.specs.Breaks.{LineAndGap, total_width}

-- a token, and those that stay on its line
pub record Piece : Type 0 where
  pub first : Token
  pub others : List Token

-- the tokens of a piece
abbrev pub piece_tokens : Piece → List Token
piece_tokens p = p.first ∷ p.others

-- the tokens of pieces, in order
abbrev pub pieces_tokens : List Piece → List Token
pieces_tokens ps = flat_map piece_tokens ps

-- a piece as one token: its first, with the columns of all
abbrev pub as_token : Piece → Token
as_token p = record p.first { width = total_width (piece_tokens p) }

-- a piece of one token
abbrev pub alone : Token → Piece
alone t = record { first = t; others = [] }

-- these tokens in one piece, if there are any
abbrev pub together : List Token → List Piece
together [] = []
together (t ∷ ts) = record { first = t; others = ts } ∷ []

-- the pieces of a word: one if it is no wider than the limit, else each token
abbrev pub word_pieces : ℕ → List Token → List Piece
word_pieces limit word = if nat_le (total_width word) limit then together word else map alone word

-- the pieces of a word that has begun, and of the tokens that come
abbrev pub pieces_after : ℕ → List Token → List Token → List Piece
pieces_after limit word [] = word_pieces limit word
pieces_after limit word (t ∷ ts) = if t.blank then word_pieces limit word ++ (alone t ∷ pieces_after limit [] ts) else pieces_after limit (word ++ t ∷ []) ts

-- The pieces of tokens: each blank token, each word that is no wider than the limit, and each token of a wider one.
abbrev pub pieces_of : ℕ → List Token → List Piece
pieces_of limit ts = pieces_after limit [] ts

-- a break of pieces as one of their tokens
abbrev pub token_break : List (LineAndGap Piece) → List (LineAndGap Token)
token_break breaks = map (λ p. record { line = pieces_tokens p.line; gap = pieces_tokens p.gap }) breaks

-- a break of pieces, each as one token
abbrev pub piece_break : List (LineAndGap Piece) → List (LineAndGap Token)
piece_break breaks = map (λ p. record { line = map as_token p.line; gap = map as_token p.gap }) breaks
