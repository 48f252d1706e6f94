-- What a name stands for.
use Rattle.std.specs.Prelude.{ℕ, List, [], ◌∷◌, ◌==◌, if◌then◌else◌, nat_eq, Option, Some, None}
use Rattle.std.specs.Cmp.Lexicographic.{pointwise}
use Rattle.markdown_entities.specs.declared.lookup.Named.{Named}
use Rattle.markdown_entities.specs.Rows.{Row}
use Rattle.markdown_entities.specs.Names.{names_with}

-- the first letter of a name, 0 if it is empty
abbrev pub first_letter : List ℕ → ℕ
first_letter [] = 0
first_letter (b ∷ bs) = b

-- a second character; 0 says that there is none
abbrev pub second_of : ℕ → Option ℕ
second_of c = if c == 0 then None else Some c

-- what the name of a row stands for
abbrev pub said_by : Row → Named
said_by r = record { first = r.first; second = second_of r.second }

-- what the first row of this name says
unfoldable pub find_name : List ℕ → List Row → Option Named
find_name name [] = None
find_name name (r ∷ rs) = if pointwise nat_eq r.name name then Some (said_by r) else find_name name rs

-- what a name stands for, if it is among those that begin with its letter
abbrev pub characters_named : List ℕ → Option Named
characters_named name = find_name name (names_with (first_letter name))
