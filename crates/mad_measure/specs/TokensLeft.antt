-- The tokens that an iterator over tokens has left.
use Rattle.std.specs.Prelude.{◌≡◌, ℕ, ◌-◌, List, [], ◌∷◌, drop, Option, MatchOption}
use Rattle.mad_measure.specs.Tokens.{IsInCompound}
use Rattle.mad_measure.specs.TokenPositions.{AreTokensRest, bytes_of}
use Rattle.mad_measure.specs.declared.tokens.Token.{Token}
use Rattle.mad_measure.specs.declared.token_cursor.Tokens.{Tokens}

-- these are the tokens that are left, in order
unfoldable pub AreTokensLeft : Tokens → List Token → Type 0
AreTokensLeft s ts = AreTokensRest s.max s.start (drop s.at s.compounds.now) ts

-- The tokens that were left are the one that came and those that are still left.
pub record ComesFirst (before : Tokens) (t : Token) (after : Tokens) : Type 0 where
  pub within : IsInCompound t
  pub tokens : (ts : List Token) → AreTokensLeft after ts → AreTokensLeft before (t ∷ ts)
  pub all : (ts : List Token) → AreTokensLeft before ts → (others : List Token) × (ts ≡ t ∷ others) × AreTokensLeft after others

-- a call gave the first of the tokens that were left, or none where none was left, and none is
abbrev pub Gives : Tokens → Option Token → Tokens → Type 0
Gives s r t = MatchOption r (AreTokensLeft s [] × AreTokensLeft t []) (λ x. ComesFirst s x t)

-- the bytes that are left, at least one for each token
unfoldable pub bytes_left : Tokens → ℕ
bytes_left s = bytes_of (drop s.at s.compounds.now) - s.start
