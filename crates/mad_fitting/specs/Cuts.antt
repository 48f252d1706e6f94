-- Parts of compounds, and an ellipsis in place of the middle of one.
use Rattle.std.specs.Prelude.{◌≡◌, ℕ, ◌+◌, ◌-◌, ◌<◌, ◌≤◌, List, ◌∷◌, ◌++◌, length, take, drop, slice_range}
use Rattle.std.specs.Str.{IsUtf8, IsCharBoundary}
use Rattle.mad_md.specs.Flagged.{flags_of}
use Rattle.mad_md.specs.declared.compound.Compound.{Compound}
use Rattle.mad_fitting.specs.CenteredCuts.{IsCenteredCut}
use Rattle.mad_fitting.specs.Ellipses.{IsEllipsis}
use Rattle.mad_fitting.specs.declared.centered.Cut.{Cut}
use Rattle.mad_fitting.specs.declared.parts.Run.{Run}

-- the part is whole characters of this text, that of the compound of this number
pub record IsTextPart (number : ℕ) (text : List ℕ) (part : Run) : Type 0 where
  pub number_is : part.compound ≡ number
  pub order : part.start ≤ part.end
  pub first : IsCharBoundary text part.start
  pub last : IsCharBoundary text part.end

-- the part is whole characters of this compound, which has this number
abbrev pub IsPartOf : ℕ → Compound → Run → Type 0
IsPartOf number p part = IsTextPart number p.src.now part

-- the part is whole characters of one of the compounds
pub record IsPart (ps : List Compound) (part : Run) : Type 0 where
  pub front : List Compound
  pub own : Compound
  pub back : List Compound
  pub parts : ps ≡ front ++ own ∷ back
  pub of : IsPartOf (length front) own part

-- the bytes from one up to another are whole characters inside the compound of this number, neither its first nor its last
pub record IsInside (number start end : ℕ) (ps : List Compound) : Type 0 where
  pub front : List Compound
  pub own : Compound
  pub back : List Compound
  pub parts : ps ≡ front ++ own ∷ back
  pub number_is : length front ≡ number
  pub some : 0 < start
  pub order : start ≤ end
  pub short : end < length own.src.now
  pub first : IsCharBoundary own.src.now start
  pub last : IsCharBoundary own.src.now end

-- an ellipsis takes the place of these bytes: the compound is three now
pub record CutsOut (number start end : ℕ) (before after : List Compound) : Type 0 where
  pub inside : IsInside number start end before
  pub utf8 : IsUtf8 inside.own.src.now
  pub head : Compound
  pub mark : Compound
  pub tail : Compound
  pub parts : after ≡ inside.front ++ head ∷ mark ∷ tail ∷ inside.back
  pub ellipsis : IsEllipsis mark
  pub head_text : head.src.now ≡ take start inside.own.src.now
  pub head_flags : flags_of head ≡ flags_of inside.own
  pub tail_text : tail.src.now ≡ drop end inside.own.src.now
  pub tail_flags : flags_of tail ≡ flags_of inside.own

-- The part is cut in its middle, so that more than so many columns go where there are as many, and this is gained. Without gain nothing
-- changes.
pub record CutsPart (part : Run) (excess gain : ℕ) (before after : List Compound) : Type 0 where
  pub within : IsPart before part
  pub cut : Cut
  pub centered : IsCenteredCut excess (slice_range within.own.src.now part.start part.end) cut
  pub most : cut.columns ≤ excess + 3
  pub gain_is : gain ≡ cut.columns - 1
  pub none : gain ≡ 0 → after ≡ before
  pub some : 0 < gain → CutsOut part.compound (part.start + cut.start) (part.start + cut.end) before after
