-- Rows of words that are whole, written without a layout in between.
use Rattle.std.specs.Prelude.{◌≡◌, ℕ, ◌-◌, ◌≤◌, ◌<◌, ◌⊎◌, false, true, List, [], ◌∷◌, ◌++◌, length}
use Rattle.std.specs.List.{flat_map, AllByRecursion}
use Rattle.mad_md.specs.declared.compound.Compound.{Compound}
use Rattle.mad_measure.specs.Chunks.{is_space_at}
use Rattle.mad_measure.specs.Tokens.{AreTokensFrom, AreTokensOf}
use Rattle.mad_measure.specs.declared.tokens.Token.{Token}
use Rattle.mad_wrap.specs.FirstFit.{Puts, at_first}
use Rattle.mad_wrap.specs.Rooms.{token_limit}
use Rattle.mad_wrap.specs.Words.{Piece, as_token, piece_tokens, pieces_of}
use Rattle.mad_wrap.specs.Writings.{IsWrittenBare, Writes, put_bytes}
use Rattle.mad_wrap.specs.declared.first_fit.FirstFit.{FirstFit}
use Rattle.mad_wrap.specs.declared.first_fit.Put.{Put}
use Rattle.mad_wrap.specs.declared.room.Room.{Room}
use Rattle.mad_read_rows.specs.ReadRows.{token_bytes, front_bytes, later_front}
use Rattle.mad_rows.specs.declared.composites.CompositeFront.{CompositeFront}

-- The pieces are put one after the other, and this is what is written of them; `write` says what of a token on its line.
abbrev pub PiecesOut : (Token → List ℕ) → List ℕ → FirstFit → List Piece → FirstFit → List ℕ → Type 0
PiecesOut write later s [] n out = (n ≡ s) × (out ≡ [])
PiecesOut write later s (p ∷ ps) n out = (put : Put) × (m : FirstFit) × (rest : List ℕ) × Puts s (as_token p) put m × PiecesOut write later m ps n rest × (out ≡ put_bytes later put (flat_map write (piece_tokens p)) ++ rest)

-- The same after the bytes that were there.
abbrev pub WritesPieces : (Token → List ℕ) → List ℕ → FirstFit → List Piece → List ℕ → FirstFit → List ℕ → Type 0
WritesPieces write later s ps old n new = (out : List ℕ) × PiecesOut write later s ps n out × (new ≡ old ++ out)

-- The pieces of the compounds' tokens were put, and written after the bytes that were there.
pub record WritesWords (write : Token → List ℕ) (later : List ℕ) (limit : ℕ) (ps : List Compound) (s : FirstFit) (old new : List ℕ) : Type 0 where
  pub tokens : List Token
  pub cut : AreTokensOf limit ps tokens
  pub after : FirstFit
  pub written : WritesPieces write later s (pieces_of limit tokens) old after new

-- After the bytes that were there come the rows of the compounds' words by first fit: what is in front of the first, the rows, a newline.
pub record WritesWordWrap (front : CompositeFront) (r : Room) (ps : List Compound) (old new : List ℕ) : Type 0 where
  pub tokens : List Token
  pub cut : AreTokensOf (token_limit r) ps tokens
  pub after : FirstFit
  pub out : List ℕ
  pub writes : PiecesOut (token_bytes front.skin.now front.style.now) (front_bytes (later_front front)) (at_first r) (pieces_of (token_limit r) tokens) after out
  pub bytes : new ≡ old ++ (front_bytes front ++ (out ++ 10 ∷ []))

-- the compound is written as it is, and isn't code; a space is before this byte
pub record HasLastWord (write : Token → List ℕ) (p : Compound) (end : ℕ) : Type 0 where
  pub uncoded : p.code ≡ false
  pub bare : IsWrittenBare write p
  pub inside : end ≤ length p.src.now
  pub space : is_space_at p.src.now (end - 1) ≡ true

-- it isn't code, and begins with a space
pub record BeginsBlank (p : Compound) : Type 0 where
  pub uncoded : p.code ≡ false
  pub some : 0 < length p.src.now
  pub space : is_space_at p.src.now 0 ≡ true

-- the next compound begins so, if there is one
abbrev pub BlankNext : List Compound → Type 0
BlankNext [] = Unit {0}
BlankNext (q ∷ qs) = BeginsBlank q

-- The tokens of the compound up to this byte are pieces of their own: up to its last word, or to its end where no word goes on after it.
abbrev pub IsQuickTo : (Token → List ℕ) → Compound → List Compound → ℕ → Type 0
IsQuickTo write p others end = HasLastWord write p end ⊎ ((end ≡ length p.src.now) × IsWrittenBare write p × BlankNext others)

-- what a compound is that isn't there
abbrev pub no_compound : Compound
no_compound = record { src = record { ref_ptr = (0, 0); now = [] }; bold = false; italic = false; code = false; strikeout = false; link = false; picture = false; picture_sign = false }

-- The tokens of a compound from a byte on up to another were put, each of which begins before `end`, and written after the bytes that were there.
pub record WritesSome (write : Token → List ℕ) (later : List ℕ) (max : ℕ) (p : Compound) (at end to : ℕ) (s : FirstFit) (old : List ℕ) (n : FirstFit) (new : List ℕ) : Type 0 where
  pub own : List Token
  pub out : List ℕ
  pub tokens : (rest : List Token) → AreTokensFrom max p to rest → AreTokensFrom max p at (own ++ rest)
  pub before : AllByRecursion (λ t. t.start_in_compound < end) own
  pub writes : Writes write later s own n out
  pub bytes : new ≡ old ++ out
