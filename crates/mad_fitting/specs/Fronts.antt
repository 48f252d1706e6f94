-- Fronts and ends of a text, by the columns that they take.
use Rattle.std.specs.Prelude.{◌≡◌, ℕ, ◌≤◌, ◌⊎◌, List, [], ◌++◌, length}
use Rattle.mad_md.specs.Flagged.{FlaggedChar}
use Rattle.mad_measure.specs.TextColumns.{width_of}

-- the longest front of a text that takes at most so many columns
pub record IsLongestFront (most : ℕ) (text front : List FlaggedChar) : Type 0 where
  pub rest : List FlaggedChar
  pub cut : front ++ rest ≡ text
  pub fits : width_of front ≤ most
  pub longest : (other more : List FlaggedChar) → other ++ more ≡ text → width_of other ≤ most → length other ≤ length front

-- the longest end of a text that takes at most so many columns
pub record IsLongestEnd (most : ℕ) (text end : List FlaggedChar) : Type 0 where
  pub front : List FlaggedChar
  pub cut : front ++ end ≡ text
  pub fits : width_of end ≤ most
  pub longest : (more other : List FlaggedChar) → more ++ other ≡ text → width_of other ≤ most → length other ≤ length end

-- what is left of a text without its shortest front of at least so many columns; nothing, where it has fewer
pub record IsWithoutFront (least : ℕ) (text left : List FlaggedChar) : Type 0 where
  pub gone : List FlaggedChar
  pub cut : gone ++ left ≡ text
  pub enough : (least ≤ width_of gone) ⊎ (left ≡ [])
  pub shortest : (other more : List FlaggedChar) → other ++ more ≡ text → least ≤ width_of other → length gone ≤ length other

-- what is left of a text without its shortest end of at least so many columns; nothing, where it has fewer
pub record IsWithoutEnd (least : ℕ) (text left : List FlaggedChar) : Type 0 where
  pub gone : List FlaggedChar
  pub cut : left ++ gone ≡ text
  pub enough : (least ≤ width_of gone) ⊎ (left ≡ [])
  pub shortest : (more other : List FlaggedChar) → more ++ other ≡ text → least ≤ width_of other → length gone ≤ length other
