-- What the columns show of a river.
use Rattle.std.specs.Prelude.{ℕ, List, codes, decimal, if◌then◌else◌}
use Rattle.examples_asked.specs.declared.list.rivers.River.{River}
use Rattle.examples_asked.specs.declared.list.rivers.River.TheVariants.{Volga, Danube, Rhine, Elbe, Loire, Rhone, Seine, Thames}
use Rattle.examples_asked.specs.declared.list.rivers.Shown.{Shown}

-- its name
abbrev pub name_of : River → List ℕ
name_of Volga = codes "Volga"
name_of Danube = codes "Danube"
name_of Rhine = codes "Rhine"
name_of Elbe = codes "Elbe"
name_of Loire = codes "Loire"
name_of Rhone = codes "Rhone"
name_of Seine = codes "Seine"
name_of Thames = codes "Thames"

-- its length in kilometers
abbrev pub length_of : River → ℕ
length_of Volga = 3530
length_of Danube = 2850
length_of Rhine = 1233
length_of Elbe = 1094
length_of Loire = 1012
length_of Rhone = 813
length_of Seine = 777
length_of Thames = 346

-- the text of a cell: the length in digits, or the name
abbrev pub shown_text : Shown → River → List ℕ
shown_text shown river = if shown.is_length then decimal (length_of river) else name_of river
