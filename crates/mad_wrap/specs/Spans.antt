-- Spans: tokens of a compound in a row that first fit puts alike.
use Rattle.std.specs.Prelude.{◌≡◌, ℕ, ◌+◌, ◌<◌, ◌⊎◌, true, false, Some, List, [], ◌∷◌, ◌++◌, length}
use Rattle.std.specs.Str.{IsCharBoundary}
use Rattle.mad_md.specs.declared.compound.Compound.{Compound}
use Rattle.mad_measure.specs.Chunks.{AreSteady}
use Rattle.mad_measure.specs.Tokens.{AreTokensFrom}
use Rattle.mad_measure.specs.declared.tokens.Token.{Token}
use Rattle.mad_wrap.specs.FirstFit.{Puts}
use Rattle.mad_wrap.specs.LineRoom.{fits_in}
use Rattle.mad_wrap.specs.declared.first_fit.FirstFit.{FirstFit}
use Rattle.mad_wrap.specs.declared.first_fit.Put.{Put}
use Rattle.mad_wrap.specs.declared.first_fit.Put.TheVariants.{OnLine}
use Rattle.mad_wrap.specs.declared.spans.Span.{Span}

-- the tokens are put on the line, one after the other
abbrev pub PutsOnLine : FirstFit → List Token → FirstFit → Type 0
PutsOnLine s [] n = n ≡ s
PutsOnLine s (t ∷ ts) n = (m : FirstFit) × Puts s t OnLine m × PutsOnLine m ts n

-- The first of the tokens is put there, and the others on the line with it. After one that is put in the gap there are no others, since the line has ended.
abbrev pub PutsAlike : FirstFit → List Token → Put → FirstFit → Type 0
PutsAlike s [] put n = ⊥
PutsAlike s (t ∷ ts) put n = (m : FirstFit) × Puts s t put m × PutsOnLine m ts n

-- The span is the next tokens of the compound from a byte on, as first fit puts them.
pub record IsSpan (max : ℕ) (p : Compound) (at : ℕ) (s : FirstFit) (span : Span) : Type 0 where
  pub own : List Token
  pub tokens : (rest : List Token) → AreTokensFrom max p span.end rest → AreTokensFrom max p at (own ++ rest)
  pub puts : PutsAlike s own span.put span.after
  pub more : at < span.end
  pub border : IsCharBoundary p.src.now span.end

-- the line takes nothing of this width
abbrev pub IsFullAt : FirstFit → ℕ → Type 0
IsFullAt s n = (s.ended ≡ true) ⊎ (fits_in s.room_left n ≡ false)

-- The line has ended, or it has less room than the limit, and no token is known to end in it.
abbrev pub IsFullHere : FirstFit → ℕ → List ℕ → ℕ → ℕ → Type 0
IsFullHere s max bs at plain = (s.ended ≡ true) ⊎ ((left : ℕ) → s.room_left ≡ Some left → (left < max) × AreSteady bs at (at + left) plain × (plain ≡ length bs → at + left < plain))
