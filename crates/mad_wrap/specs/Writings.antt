-- Tokens that are written where first fit puts them: the rows of lines, byte by byte.
use Rattle.std.specs.Prelude.{◌≡◌, ℕ, List, [], ◌∷◌, ◌++◌}
use Rattle.std.specs.List.{flat_map}
use Rattle.mad_md.specs.declared.compound.Compound.{Compound}
use Rattle.mad_measure.specs.Tokens.{AreTokensFrom, AreTokensOf, token_text}
use Rattle.mad_measure.specs.declared.tokens.Token.{Token}
use Rattle.mad_wrap.specs.Breaks.{LineAndGap}
use Rattle.mad_wrap.specs.FirstFit.{Puts}
use Rattle.mad_wrap.specs.Placings.{IsFirstFit}
use Rattle.mad_wrap.specs.declared.first_fit.FirstFit.{FirstFit}
use Rattle.mad_wrap.specs.declared.first_fit.Put.{Put}
use Rattle.mad_wrap.specs.declared.first_fit.Put.TheVariants.{OnLine, OnNext, InGap}
use Rattle.mad_wrap.specs.declared.room.Room.{Room}

-- what is written of a text where it is put: on the next line after a newline and what is in front of later lines; in the gap nothing
abbrev pub put_bytes : List ℕ → Put → List ℕ → List ℕ
put_bytes later OnLine text = text
put_bytes later OnNext text = 10 ∷ (later ++ text)
put_bytes later InGap text = []

-- The tokens are put one after the other, and this is what is written of them; `write` says what of one on its line.
abbrev pub Writes : (Token → List ℕ) → List ℕ → FirstFit → List Token → FirstFit → List ℕ → Type 0
Writes write later s [] n out = (n ≡ s) × (out ≡ [])
Writes write later s (t ∷ ts) n out = (put : Put) × (m : FirstFit) × (rest : List ℕ) × Puts s t put m × Writes write later m ts n rest × (out ≡ put_bytes later put (write t) ++ rest)

-- each token of the compound is written as it is
abbrev pub IsWrittenBare : (Token → List ℕ) → Compound → Type 0
IsWrittenBare write p = (t : Token) → t.compound ≡ p → write t ≡ token_text t

-- The tokens of a compound up to a byte were put, and written after the bytes that were there.
pub record WritesUpTo (write : Token → List ℕ) (later : List ℕ) (max : ℕ) (p : Compound) (at : ℕ) (s : FirstFit) (old : List ℕ) (n : FirstFit) (new : List ℕ) : Type 0 where
  pub own : List Token
  pub out : List ℕ
  pub tokens : (rest : List Token) → AreTokensFrom max p at rest → AreTokensFrom max p 0 (own ++ rest)
  pub writes : Writes write later s own n out
  pub bytes : new ≡ old ++ out

-- Those of compounds were, but for the tokens of those that are left.
pub record WritesBefore (write : Token → List ℕ) (later : List ℕ) (max : ℕ) (ps left : List Compound) (s : FirstFit) (old : List ℕ) (n : FirstFit) (new : List ℕ) : Type 0 where
  pub own : List Token
  pub out : List ℕ
  pub tokens : (rest : List Token) → AreTokensOf max left rest → AreTokensOf max ps (own ++ rest)
  pub writes : Writes write later s own n out
  pub bytes : new ≡ old ++ out

-- lines and an open one after them as rows, without what is in front of the first
abbrev pub open_rows : (Token → List ℕ) → List ℕ → List (LineAndGap Token) → List Token → List ℕ
open_rows write later [] line = flat_map write line
open_rows write later (p ∷ ps) line = flat_map write p.line ++ (10 ∷ (later ++ open_rows write later ps line))

-- The bytes are the rows of the tokens' lines by first fit, without what is in front of the first, and without a newline after the last.
pub record AreRows (write : Token → List ℕ) (later : List ℕ) (r : Room) (ts : List Token) (out : List ℕ) : Type 0 where
  pub breaks : List (LineAndGap Token)
  pub line : List Token
  pub gap : List Token
  pub first_fit : IsFirstFit r ts (breaks ++ record { line = line; gap = gap } ∷ [])
  pub rows : out ≡ open_rows write later breaks line
