-- A text fitted to a width: what is kept of it, and where ellipses are put.
use Rattle.std.specs.Prelude.{◌≡◌, ℕ, ◌+◌, ◌-◌, ◌/◌, ◌<◌, ◌≤◌, List, [], ◌∷◌, map}
use Rattle.mad_md.specs.Flagged.{FlaggedChar, flagged_text, run_of}
use Rattle.mad_md.specs.declared.alignment.Alignment.{Alignment}
use Rattle.mad_md.specs.declared.alignment.Alignment.TheVariants.{Unspecified, Left, Center, Right}
use Rattle.mad_md.specs.declared.compound.Compound.{Compound}
use Rattle.mad_measure.specs.TextColumns.{width_of}
use Rattle.mad_fitting.specs.Ellipses.{ellipsis_run, IsShortened, EndsInEllipsis, BeginsWithEllipsis, HasEllipsesRound}
use Rattle.mad_fitting.specs.Filled.{NoneEmpty}
use Rattle.mad_fitting.specs.Fronts.{IsLongestFront, IsLongestEnd, IsWithoutFront, IsWithoutEnd}

-- aligned left: the longest front that leaves a column, and an ellipsis
abbrev pub IsFittedLeft : ℕ → List FlaggedChar → List Compound → Type 0
IsFittedLeft columns text result = (front : List FlaggedChar) × IsLongestFront (columns - 1) text front × EndsInEllipsis front result

-- aligned right: an ellipsis, and the longest end that leaves a column
abbrev pub IsFittedRight : ℕ → List FlaggedChar → List Compound → Type 0
IsFittedRight columns text result = (end : List FlaggedChar) × IsLongestEnd (columns - 1) text end × BeginsWithEllipsis end result

-- Centered, with so many columns too many: half of these go in front with a column for an ellipsis, and the others at the end with
-- one. Where half of them is none, nothing goes in front.
pub record IsFittedCenter (excess : ℕ) (text : List FlaggedChar) (result : List Compound) : Type 0 where
  pub one : excess / 2 ≡ 0 → (left : List FlaggedChar) × IsWithoutEnd (excess + 1) text left × EndsInEllipsis left result
  pub more : 0 < excess / 2 → (back : List FlaggedChar) × (left : List FlaggedChar) × IsWithoutFront (excess / 2 + 1) text back × IsWithoutEnd (excess - excess / 2 + 1) back left
      × HasEllipsesRound left result

-- without alignment: it is cut somewhere, and at most two columns are left
abbrev pub IsFittedInside : ℕ → List FlaggedChar → List Compound → Type 0
IsFittedInside columns text result = (n : ℕ) × (0 < n) × IsShortened n text result × (columns ≤ width_of (flagged_text result) + 2)

-- by how it is aligned
abbrev pub IsFittedAs : Alignment → ℕ → List FlaggedChar → List Compound → Type 0
IsFittedAs Unspecified columns text result = IsFittedInside columns text result
IsFittedAs Left columns text result = IsFittedLeft columns text result
IsFittedAs Center columns text result = IsFittedCenter (width_of text - columns) text result
IsFittedAs Right columns text result = IsFittedRight columns text result

-- What becomes of compounds that don't fit in a width behind an indent. It fits, and is what the alignment says, where two columns
-- are left behind the indent. Unless the width is 0, an ellipsis is put in. No empty compound is made.
pub record IsFitted (align : Alignment) (indent width : ℕ) (source result : List Compound) : Type 0 where
  pub shortened : (n : ℕ) × (0 < width → 0 < n) × IsShortened n (flagged_text source) result
  pub none : width ≡ 0 → result ≡ []
  pub alone : width ≡ 1 → map run_of result ≡ ellipsis_run ∷ []
  pub fits : indent + 2 ≤ width → indent + width_of (flagged_text result) ≤ width
  pub aligned : indent + 2 ≤ width → IsFittedAs align (width - indent) (flagged_text source) result
  pub none_empty : NoneEmpty source → NoneEmpty result
