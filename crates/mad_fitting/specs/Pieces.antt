-- Fronts of one text, by the columns that they take; and parts of compounds in a list.
use Rattle.std.specs.Prelude.{◌≡◌, ℕ, ◌+◌, ◌<◌, ◌⊎◌, true, false, List, [], ◌∷◌, ◌++◌, chars, take, drop, slice_range}
use Rattle.std.specs.Char.{is_whitespace}
use Rattle.std.specs.List.{AllByRecursion}
use Rattle.std.specs.Str.{IsUtf8, IsCharBoundary}
use Rattle.mad_characters.specs.Columns.{char_columns}
use Rattle.mad_md.specs.Flagged.{flags_of}
use Rattle.mad_md.specs.declared.compound.Compound.{Compound}
use Rattle.mad_measure.specs.TextColumns.{columns}
use Rattle.mad_fitting.specs.declared.fronts.Front.{Front}

-- the front is whole characters of the text, and takes these columns
pub record IsFrontOf (text : List ℕ) (front : Front) : Type 0 where
  pub utf8 : IsUtf8 text
  pub border : IsCharBoundary text front.bytes
  pub counts : front.columns ≡ columns (chars (take front.bytes text))

-- no character more fits in the columns
abbrev pub StopsWithin : ℕ → List ℕ → Front → Type 0
StopsWithin most text front = (c : ℕ) (cs : List ℕ) → chars (drop front.bytes text) ≡ c ∷ cs → most < front.columns + char_columns c

-- with no character less it would have so many columns; it may be empty
abbrev pub IsNoLonger : ℕ → List ℕ → Front → Type 0
IsNoLonger least text front = (front.bytes ≡ 0) ⊎ ((cs : List ℕ) × (c : ℕ) × (chars (take front.bytes text) ≡ cs ++ c ∷ []) × (columns cs < least))

-- to a list a part of a compound is added, from one byte up to another, if it isn't empty
pub record AddsPart (p : Compound) (start end : ℕ) (before after : List Compound) : Type 0 where
  pub part : List Compound
  pub added : after ≡ before ++ part
  pub is : ((start ≡ end) × (part ≡ [])) ⊎ ((start < end) × ((q : Compound) × (part ≡ q ∷ []) × (q.src.now ≡ slice_range p.src.now start end) × (flags_of q ≡ flags_of p)))

-- the front has no whitespace, and then there is some, or the text ends
pub record IsSolidFront (text : List ℕ) (front : Front) : Type 0 where
  pub solid : AllByRecursion (λ c. is_whitespace c ≡ false) (chars (take front.bytes text))
  pub ended : (c : ℕ) (cs : List ℕ) → chars (drop front.bytes text) ≡ c ∷ cs → is_whitespace c ≡ true
