-- Where the next token begins among compounds.
use Rattle.std.specs.Prelude.{◌≡◌, ℕ, ◌+◌, ◌-◌, ◌<◌, List, [], ◌∷◌, ◌++◌, length}
use Rattle.std.specs.Str.{IsCharBoundary}
use Rattle.mad_md.specs.declared.compound.Compound.{Compound}
use Rattle.mad_measure.specs.Tokens.{AreTokensFrom, AreTokensOf}
use Rattle.mad_measure.specs.declared.tokens.Token.{Token}

-- the tokens of the first compound from a byte on, and then those of each of the others, in order
abbrev pub AreTokensRest : ℕ → ℕ → List Compound → List Token → Type 0
AreTokensRest max start [] ts = ts ≡ []
AreTokensRest max start (p ∷ ps) ts = (own : List Token) × (others : List Token) × (ts ≡ own ++ others) × AreTokensFrom max p start own × AreTokensOf max ps others

-- the text of the first compound
abbrev pub first_text : List Compound → List ℕ
first_text [] = []
first_text (p ∷ ps) = p.src.now

-- the bytes of compounds
abbrev pub bytes_of : List Compound → ℕ
bytes_of [] = 0
bytes_of (p ∷ ps) = length p.src.now + bytes_of ps

-- A byte of the first of the compounds `ps`, and a byte of the first of `qs`. From both on the same tokens are left, and as many bytes.
pub record IsSamePosition (start : ℕ) (ps : List Compound) (at : ℕ) (qs : List Compound) : Type 0 where
  pub border : 0 < at → IsCharBoundary (first_text qs) at
  pub bytes : bytes_of qs - at ≡ bytes_of ps - start
  pub tokens : (max : ℕ) (ts : List Token) → AreTokensRest max at qs ts → AreTokensRest max start ps ts
  pub all : (max : ℕ) (ts : List Token) → AreTokensRest max start ps ts → AreTokensRest max at qs ts
