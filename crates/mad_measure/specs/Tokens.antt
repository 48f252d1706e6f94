-- Tokens: the longest runs of characters of a compound that are alike, blank or not, ended also where the next character would pass a limit.
use Rattle.std.specs.Prelude.{◌≡◌, ◌≢◌, ℕ, ◌+◌, ◌<◌, ◌≤◌, ◌⊎◌, Bool, List, [], ◌∷◌, ◌++◌, length, chars, drop, slice_range}
use Rattle.std.specs.List.{AllByRecursion}
use Rattle.std.specs.Str.{IsUtf8, IsCharBoundary}
use Rattle.mad_characters.specs.Columns.{char_columns}
use Rattle.mad_md.specs.Flagged.{FlaggedChar, flagged, flags_of, is_blank, Run}
use Rattle.mad_md.specs.declared.compound.Compound.{Compound}
use Rattle.mad_measure.specs.TextColumns.{width_of}
use Rattle.mad_measure.specs.declared.tokens.Token.{Token}

-- a token of this blankness and width can't take in the character that comes next
abbrev pub StopsBefore : ℕ → Bool → ℕ → List FlaggedChar → Type 0
StopsBefore max blank width [] = Unit {0}
StopsBefore max blank width (y ∷ ys) = (is_blank y ≢ blank) ⊎ (max < width + char_columns y.char)

-- characters that may be in one token: all blank or all not, and no wider than the limit if they are several
pub record IsAlike (max : ℕ) (blank : Bool) (width : ℕ) (xs : List FlaggedChar) : Type 0 where
  pub alike : AllByRecursion (λ x. is_blank x ≡ blank) xs
  pub counts : width ≡ width_of xs
  pub within : 1 < length xs → width ≤ max

-- the bytes of a token, in its compound
abbrev pub token_text : Token → List ℕ
token_text t = slice_range t.compound.src.now t.start_in_compound t.end_in_compound

-- the flagged text of a token
abbrev pub flagged_token : Token → List FlaggedChar
flagged_token t = flagged (flags_of t.compound) (chars (token_text t))

-- the flagged text of tokens in a row
abbrev pub tokens_text : List Token → List FlaggedChar
tokens_text [] = []
tokens_text (t ∷ ts) = flagged_token t ++ tokens_text ts

-- what a token says, whatever its address
abbrev pub token_run : Token → Run
token_run t = record { flags = flags_of t.compound; text = token_text t }

-- the token is whole characters of its compound, at least one
pub record IsInCompound (t : Token) : Type 0 where
  pub some : t.start_in_compound < t.end_in_compound
  pub start : IsCharBoundary t.compound.src.now t.start_in_compound
  pub end : IsCharBoundary t.compound.src.now t.end_in_compound
  pub utf8 : IsUtf8 (token_text t)

-- the token begins at this byte of the compound
pub record IsTokenAt (max : ℕ) (p : Compound) (start : ℕ) (t : Token) : Type 0 where
  pub part_of : t.compound ≡ p
  pub begins : t.start_in_compound ≡ start
  pub within : IsInCompound t
  pub alike : IsAlike max t.blank t.width (flagged_token t)
  pub stops : StopsBefore max t.blank t.width (flagged (flags_of p) (chars (drop t.end_in_compound p.src.now)))

-- the tokens of a compound from a byte on, in order, to its end
abbrev pub AreTokensFrom : ℕ → Compound → ℕ → List Token → Type 0
AreTokensFrom max p start [] = start ≡ length p.src.now
AreTokensFrom max p start (t ∷ ts) = IsTokenAt max p start t × AreTokensFrom max p t.end_in_compound ts

-- the tokens of each of the compounds, in order
abbrev pub AreTokensOf : ℕ → List Compound → List Token → Type 0
AreTokensOf max [] ts = ts ≡ []
AreTokensOf max (p ∷ ps) ts = (own : List Token) × (others : List Token) × (ts ≡ own ++ others) × AreTokensFrom max p 0 own × AreTokensOf max ps others
