-- How pairs lie.
use Rattle.std.specs.Prelude.{ℕ, ◌<◌, ◌≤◌, ◌⊎◌, List}
use Rattle.std.specs.List.{All, AllPairs}
use Rattle.markdown_emphasis.specs.declared.runs.Pair.{Pair}

-- a pair among so many runs
pub record IsWithin (count : ℕ) (pair : Pair) : Type 0 where
  pub ordered : pair.opener < pair.closer
  pub inside : pair.closer < count

-- Two pairs, the second of which doesn't close earlier: one after the other, or the first inside the second. They may share a run.
pub record AreApart (first second : Pair) : Type 0 where
  pub ordered : first.closer ≤ second.closer
  pub apart : (first.closer ≤ second.opener) ⊎ (second.opener ≤ first.opener)

-- pairs among so many runs
pub record ArePairs (count : ℕ) (pairs : List Pair) : Type 0 where
  pub within : All (IsWithin count) pairs
  pub nested : AllPairs AreApart pairs
