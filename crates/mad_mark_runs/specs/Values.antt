-- Runs as what they stand for: a value for each counted character.
use Rattle.std.specs.Prelude.{ℕ, zero, suc, ◌+◌, ◌-◌, ◌<◌, ◌==◌, List, [], ◌∷◌, ◌++◌, replicate, if◌then◌else◌}
use Rattle.mad_mark_runs.specs.declared.mark_runs.MarkRun.{MarkRun}

-- each run ends behind the one before it, the first behind this number
abbrev pub AreRising : ℕ → List MarkRun → Type 0
AreRising from [] = Unit {0}
AreRising from (run ∷ runs) = (from < run.end) × AreRising run.end runs

-- where the last one ends
abbrev pub end_from : ℕ → List MarkRun → ℕ
end_from from [] = from
end_from from (run ∷ runs) = end_from run.end runs

-- the values of the numbers from this one on
abbrev pub values_from : ℕ → List MarkRun → List ℕ
values_from from [] = []
values_from from (run ∷ runs) = replicate (run.end - from) run.value ++ values_from run.end runs

-- the values of all of them: the n-th is that of the n-th counted character
abbrev pub values_of : List MarkRun → List ℕ
values_of runs = values_from 0 runs

-- ---- the runs of values

-- a run of so many of a value, behind those that end here; of none there is none
abbrev pub run_behind : ℕ → ℕ → ℕ → List MarkRun
run_behind end value zero = []
run_behind end value (suc n) = record { value = value; end = end + suc n } ∷ []

-- The runs of values, behind those that end here: those that are alike, side by side, are one. So many of a value have come already.
abbrev pub joined_from : ℕ → ℕ → ℕ → List ℕ → List MarkRun
joined_from end value count [] = run_behind end value count
joined_from end value count (v ∷ vs) = if v == value then joined_from end value (count + 1) vs else run_behind end value count ++ joined_from (end + count) v 1 vs

-- the runs of values
abbrev pub joined : List ℕ → List MarkRun
joined values = joined_from 0 0 0 values
