-- Compounds that are cut in the middle.
use Rattle.std.specs.Prelude.{◌≡◌, ℕ, ◌+◌, ◌<◌, ◌≤◌, List}
use Rattle.mad_md.specs.Flagged.{FlaggedChar, flagged_text}
use Rattle.mad_md.specs.declared.compound.Compound.{Compound}
use Rattle.mad_measure.specs.TextColumns.{width_of}
use Rattle.mad_fitting.specs.Ellipses.{IsShortened}
use Rattle.mad_fitting.specs.Filled.{NoneEmpty}
use Rattle.mad_fitting.specs.Shortening.{IsEndReplaced}

-- Compounds with so many columns too many are cut in the middle, and then `left` are too many. At most two columns more than that
-- have gone, and none more while some are too many.
pub record IsThinned (excess : ℕ) (before after : List Compound) (left : ℕ) : Type 0 where
  pub more : ℕ
  pub shortened : (n : ℕ) (text : List FlaggedChar) → IsShortened n text before → IsShortened (n + more) text after
  pub less : left ≤ excess
  pub some : left < excess → 0 < more
  pub gone : width_of (flagged_text after) + excess ≤ width_of (flagged_text before) + left
  pub within : width_of (flagged_text before) + left ≤ width_of (flagged_text after) + excess + 2
  pub exact : 0 < left → width_of (flagged_text before) + left ≡ width_of (flagged_text after) + excess
  pub still : excess ≡ 0 → (left ≡ 0) × (width_of (flagged_text after) ≡ width_of (flagged_text before))
  pub none_empty : NoneEmpty before → NoneEmpty after

-- Compounds with so many columns too many are cut in the middle; where some are still too many, an ellipsis takes the place of the end.
pub record IsCutInside (excess : ℕ) (ps result : List Compound) : Type 0 where
  pub cut : List Compound
  pub left : ℕ
  pub thinned : IsThinned excess ps cut left
  pub done : left ≡ 0 → result ≡ cut
  pub more : 0 < left → IsEndReplaced (left + 1) cut result
