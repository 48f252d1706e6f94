-- Which part is cut last, and by how much each is.
use Rattle.std.specs.Prelude.{◌≡◌, ℕ, ◌+◌, ◌<◌, ◌≤◌, ◌&&◌, ◌||◌, ◌⊎◌, nat_eq, nat_le, nat_lt, min, List, Option, Some, None, if◌then◌else◌}
use Rattle.std.specs.List.{AllByRecursion}
use Rattle.mad_fitting.specs.Parts.{due, gained}
use Rattle.mad_fitting.specs.declared.gains.Gain.{Gain}
use Rattle.mad_fitting.specs.declared.turns.Last.{Last}
use Rattle.mad_fitting.specs.declared.turns.Turns.{Turns}

-- The part is cut last: something is too many when its turn comes, and nothing behind it. All are cut where there is none, and that
-- isn't enough.
abbrev pub IsLast : ℕ → List Gain → Option Last → Type 0
IsLast excess gains None = gained excess 0 0 0 gains < excess
IsLast excess gains (Some last) = (last.left ≡ due excess gains last.number last.columns) × (0 < last.left) × (excess ≤ gained excess last.columns last.number 0 gains)

-- the gain is less than the greatest number of columns
abbrev pub IsSmall : Gain → Type 0
IsSmall gain = gain.gained < 18446744073709551615

-- these are the turns in which the parts are cut
pub record AreTurns (turns : Turns) : Type 0 where
  pub last : IsLast turns.excess turns.gains.items turns.last
  pub small : AllByRecursion IsSmall turns.gains.items
  pub some : 0 < turns.excess

-- By how many columns a part is cut: all of them before the last part, what is left for that, and none behind it.
abbrev pub amount_of : Option Last → ℕ → ℕ → ℕ
amount_of None number columns = 18446744073709551615
amount_of (Some last) number columns =
    if nat_lt last.columns columns || (nat_eq columns last.columns && nat_lt last.number number) then 18446744073709551615
    else (if nat_eq columns last.columns && nat_eq number last.number then min last.left 18446744073709551615 else 0)

-- So many columns serve for a part that gains this, where others are due: the cut is the same.
pub record Serves (due gained amount : ℕ) : Type 0 where
  pub none : due ≡ 0 → amount ≡ 0
  pub same : 0 < due → (0 < amount) × ((amount ≡ due) ⊎ ((gained < due) × (gained < amount)))

-- At most how much parts gain in these turns; the first of them has this number. The last one gains at most two columns more than are
-- left for it.
abbrev pub room_for : ℕ → Option Last → ℕ → List Gain → ℕ
room_for excess None number gains = gained excess 0 0 number gains
room_for excess (Some last) number gains = gained excess last.columns (last.number + 1) number gains + (if nat_le number last.number then last.left + 2 else 0)

-- at most how much parts gain in these turns, the first of them with this number
abbrev pub room_of : Turns → ℕ → List Gain → ℕ
room_of turns number gains = room_for turns.excess turns.last number gains
