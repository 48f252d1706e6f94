-- The open brackets that the code keeps: the nearest is the last.
use Rattle.std.specs.Prelude.{List, map, reverse}
use Rattle.markdown_stream.specs.Provisional.{Opening}
use Rattle.markdown_stream.specs.declared.provisional.Bracket.{Bracket}

-- a bracket that is open
abbrev pub opening_of : Bracket → Opening
opening_of b = record { behind = b.behind.now; free = b.free }

-- those that are open, the nearest first
abbrev pub openings_of : List Bracket → List Opening
openings_of bs = map opening_of (reverse bs)
