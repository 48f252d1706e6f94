-- What pairs leave of runs.
use Rattle.std.specs.Prelude.{◌≡◌, ℕ, ◌<◌, ◌≤◌, ◌==◌, ◌||◌, true, false, if◌then◌else◌, List, length, slice_index_or}
use Rattle.std.specs.List.{Any, sum_by}
use Rattle.markdown_emphasis.specs.declared.runs.Sign.TheVariants.{Star}
use Rattle.markdown_emphasis.specs.declared.runs.Run.{Run}
use Rattle.markdown_emphasis.specs.declared.runs.Pair.{Pair}
use Rattle.markdown_emphasis.specs.Matching.{fits}

-- the run of a place, or one of no marks
abbrev pub run_at : List Run → ℕ → Run
run_at runs place = slice_index_or runs place (record { sign = Star; count = 0; opens = false; closes = false })

-- how many marks of a run a pair takes
abbrev pub takes : ℕ → Pair → ℕ
takes place pair = if pair.opener == place || pair.closer == place then pair.count else 0

-- how many marks of a run pairs take
abbrev pub taken_at : List Pair → ℕ → ℕ
taken_at pairs place = sum_by (takes place) pairs

-- a pair that goes over a run and is closed up to a later place
pub record IsOverUntil (place last : ℕ) (pair : Pair) : Type 0 where
  pub before : pair.opener < place
  pub after : place < pair.closer
  pub until : pair.closer ≤ last

-- pairs that take no more marks than there are
abbrev pub HasEnough : List Run → List Pair → Type 0
HasEnough runs pairs = (i : ℕ) → i < length runs → taken_at pairs i ≤ (run_at runs i).count

-- Pairs that take no more marks than there are. Of two runs that fit and have marks left, the first lies inside a pair that is closed before the
-- second could close.
pub record Exhaust (runs : List Run) (pairs : List Pair) : Type 0 where
  pub enough : HasEnough runs pairs
  pub none_left : (i j : ℕ) → i < j → j < length runs → fits (run_at runs i) (run_at runs j) ≡ true
      → taken_at pairs i < (run_at runs i).count → taken_at pairs j < (run_at runs j).count → Any (IsOverUntil i j) pairs
