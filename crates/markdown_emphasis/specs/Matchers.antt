-- What the code keeps, as the definition has it. Its stack has the nearest opener last.
use Rattle.std.specs.Prelude.{◌≡◌, ℕ, ◌+◌, ◌<◌, List, length, take, reverse}
use Rattle.markdown_emphasis.specs.declared.runs.Run.{Run}
use Rattle.markdown_emphasis.specs.declared.runs.Mark.{Mark}
use Rattle.markdown_emphasis.specs.declared.matcher.Matcher.{Matcher}
use Rattle.markdown_emphasis.specs.Matching.{Matching, Closing, nearest}
use Rattle.markdown_emphasis.specs.Keys.{AreBottoms}

-- between two runs
abbrev pub matching_of : Matcher → Matching
matching_of m = record { openers = reverse m.openers.items; pairs = m.pairs.items }

-- while a run closes
abbrev pub closing_of : Matcher → Mark → Closing
closing_of m closer = record { openers = reverse m.openers.items; closer = closer; pairs = m.pairs.items }

-- no opener below a key's bottom fits its closers, and no bottom that the code keeps is above this place
abbrev pub HasBottoms : ℕ → Matcher → Type 0
HasBottoms place m = AreBottoms place m.bottoms (reverse m.openers.items)

-- where on the stack the nearest opener is that fits
pub record IsNearestAt (closer : Run) (openers : List Mark) (index : ℕ) : Type 0 where
  pub within : index < length openers
  pub nearest : nearest closer (reverse openers) ≡ reverse (take (index + 1) openers)
