-- What the code keeps, as the definition has it. Its stack has the nearest bracket last, and says of the first so many at once that a link is inside.
use Rattle.std.specs.Prelude.{ℕ, ◌≤◌, nat_lt, List, [], ◌∷◌, length, reverse}
use Rattle.markdown_brackets.specs.declared.brackets.Bracket.{Bracket}
use Rattle.markdown_brackets.specs.declared.brackets.Open.{Open}
use Rattle.markdown_brackets.specs.declared.brackets.Brackets.{Brackets}
use Rattle.markdown_brackets.specs.Brackets.{Reading}

-- of brackets, the nearest first: the last so many have a link inside
abbrev pub marked : ℕ → List Bracket → List Open
marked dead [] = []
marked dead (b ∷ bs) = record { bracket = b; dead = nat_lt (length bs) dead } ∷ marked dead bs

-- the reading that the code keeps
abbrev pub reading_of : Brackets → Reading
reading_of b = record { brackets = marked b.dead (reverse b.brackets.items); runs = b.runs.items; pairs = b.pairs.items }

-- no more have a link inside than there are
abbrev pub IsTidy : Brackets → Type 0
IsTidy b = b.dead ≤ length b.brackets.items
