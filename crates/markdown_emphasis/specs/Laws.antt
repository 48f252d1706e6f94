-- What follows from the definition.
use Rattle.std.specs.Prelude.{List, length}
use Rattle.markdown_emphasis.specs.declared.runs.Run.{Run}
use Rattle.markdown_emphasis.specs.Matching.{matches}
use Rattle.markdown_emphasis.specs.Pairs.{ArePairs}
use Rattle.markdown_emphasis.specs.Left.{Exhaust}

-- pairs lie within the runs, nested or one after the other
abbrev pub PairsAreNested : Type 0
PairsAreNested = (runs : List Run) → ArePairs (length runs) (matches runs)

-- No run gives more marks than it has. Of two runs that match and have marks left, the first lies inside a pair that is closed before the second.
abbrev pub NothingIsLeft : Type 0
NothingIsLeft = (runs : List Run) → Exhaust runs (matches runs)
