-- Rows that are kept in chunks.
use Rattle.std.specs.Prelude.{List, Option, length, ◌-◌, slice_get}
use Rattle.std.specs.Global.{Vec}
use Rattle.std.specs.List.{flat_map}

-- what all chunks hold, one after the other
abbrev pub all_of : {X : Type 0} → List (Vec X) → List X
all_of chunks = flat_map (λ chunk. chunk.items) chunks

-- the last element, if there is one
abbrev pub last_of : {X : Type 0} → List X → Option X
last_of xs = slice_get xs (length xs - 1)
