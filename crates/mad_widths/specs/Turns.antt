-- Columns give up what they request in turn, the widest first, until an excess is gone.
use Rattle.std.specs.Prelude.{◌≡◌, ℕ, ◌+◌, ◌-◌, ◌<◌, ◌≤◌, min, All, Bool, false, ◌&&◌, ◌||◌, ◌==◌, nat_lt, if◌then◌else◌, List, [], ◌∷◌, length, map, sum_by, slice_index, slice_index_or, IsPermutation}
use Rattle.std.specs.declared.cmp.Reverse.{Reverse}

-- a column's turn: its natural width, and its number from the left
pub record Turn : Type 0 where
  pub width : ℕ
  pub column : ℕ

-- a turn as the program sorts it
abbrev pub turn_of : Reverse ℕ × ℕ → Turn
turn_of t = record { width = t.0.0; column = t.1 }

-- the turns of columns of these natural widths, from this number on
abbrev pub turns_from : ℕ → List ℕ → List Turn
turns_from column [] = []
turns_from column (w ∷ ws) = record { width = w; column = column } ∷ turns_from (column + 1) ws

-- t comes before u: it is wider, or as wide and further left
abbrev pub goes_before : Turn → Turn → Bool
goes_before t u = nat_lt u.width t.width || ((t.width == u.width) && nat_lt t.column u.column)

-- what all columns request whose turn comes before that one
abbrev pub requested_before : List ℕ → List Turn → Turn → ℕ
requested_before requests turns t = sum_by (λ u. if goes_before u t then slice_index requests u.column else 0) turns

-- what a column gives up at its turn: what it requests, but no more than those before it leave of the excess
abbrev pub granted_at : List ℕ → ℕ → List Turn → Turn → ℕ
granted_at requests excess turns t = min (slice_index requests t.column) (excess - requested_before requests turns t)

-- what each of the columns of these natural widths gives up
unfoldable pub grants : List ℕ → List ℕ → ℕ → List ℕ
grants widths requests excess = map (granted_at requests excess (turns_from 0 widths)) (turns_from 0 widths)

-- these are the turns of columns of these natural widths, in order
pub record AreTurns (widths : List ℕ) (turns : List Turn) : Type 0 where
  pub all : IsPermutation (turns_from 0 widths) turns
  pub ordered : (k : ℕ) (d : Turn) → k + 1 < length turns → goes_before (slice_index_or turns (k + 1) d) (slice_index_or turns k d) ≡ false

-- columns of these widths can give up these requests in these turns, as the program sorts them
pub record CanGiveUp (widths requests : List ℕ) (turns : List (Reverse ℕ × ℕ)) : Type 0 where
  pub count : length requests ≡ length widths
  pub within : (k : ℕ) → k < length requests → slice_index requests k ≤ slice_index widths k
  pub columns : All (λ t. t.1 < length requests) turns
