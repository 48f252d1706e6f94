-- Compounds without a front or an end, as the code makes them.
use Rattle.std.specs.Prelude.{◌≡◌, ℕ, ◌+◌, ◌<◌, ◌≤◌, List, [], ◌∷◌, ◌++◌}
use Rattle.mad_characters.specs.Columns.{char_columns}
use Rattle.mad_md.specs.Flagged.{FlaggedChar, flagged_text}
use Rattle.mad_md.specs.declared.compound.Compound.{Compound}
use Rattle.mad_measure.specs.TextColumns.{width_of}
use Rattle.mad_fitting.specs.Ellipses.{IsEllipsis, IsShortened}
use Rattle.mad_fitting.specs.Filled.{NoneEmpty}
use Rattle.mad_fitting.specs.Fronts.{IsWithoutFront, IsWithoutEnd}

-- whatever text the compounds `ps` are parts of among ellipses, `qs` are too
abbrev pub StaysShortened : List Compound → List Compound → Type 0
StaysShortened ps qs = (n : ℕ) (text : List FlaggedChar) → IsShortened n text ps → (k : ℕ) × IsShortened k text qs

-- a front of the compounds, as long as it takes at most so many columns
pub record IsFrontWithin (most : ℕ) (ps kept : List Compound) : Type 0 where
  pub rest : List FlaggedChar
  pub cut : flagged_text kept ++ rest ≡ flagged_text ps
  pub fits : width_of (flagged_text kept) ≤ most
  pub stops : (y : FlaggedChar) (ys : List FlaggedChar) → rest ≡ y ∷ ys → most < width_of (flagged_text kept) + char_columns y.char
  pub shortened : StaysShortened ps kept
  pub none_empty : NoneEmpty kept

-- the compounds without their shortest end of at least so many columns
pub record LosesEnd (least : ℕ) (ps kept : List Compound) : Type 0 where
  pub without : IsWithoutEnd least (flagged_text ps) (flagged_text kept)
  pub shortened : StaysShortened ps kept
  pub none_empty : NoneEmpty kept

-- the compounds without their shortest front of at least so many columns
pub record LosesFront (least : ℕ) (ps kept : List Compound) : Type 0 where
  pub without : IsWithoutFront least (flagged_text ps) (flagged_text kept)
  pub none_empty : NoneEmpty kept

-- an ellipsis in place of the shortest end of at least so many columns
pub record IsEndReplaced (least : ℕ) (ps result : List Compound) : Type 0 where
  pub kept : List Compound
  pub last : Compound
  pub parts : result ≡ kept ++ last ∷ []
  pub ellipsis : IsEllipsis last
  pub loses : LosesEnd least ps kept

-- an ellipsis in place of the shortest front of at least so many columns
pub record IsFrontReplaced (least : ℕ) (ps result : List Compound) : Type 0 where
  pub first : Compound
  pub kept : List Compound
  pub parts : result ≡ first ∷ kept
  pub ellipsis : IsEllipsis first
  pub loses : LosesFront least ps kept

-- an ellipsis in place of the shortest front of at least so many columns, and then one in place of the shortest end
pub record AreBothReplaced (front_least end_least : ℕ) (ps result : List Compound) : Type 0 where
  pub first : Compound
  pub back : List Compound
  pub others : List Compound
  pub parts : result ≡ first ∷ others
  pub ellipsis : IsEllipsis first
  pub loses : LosesFront front_least ps back
  pub end : IsEndReplaced end_least back others
