-- The widths of a table's columns, from the widths of their cells and from what is available for all of them.
-- Widths are in columns of the terminal.
use Rattle.std.specs.Prelude.{◌≡◌, ◌≢◌, ℕ, ◌+◌, ◌-◌, ◌*◌, ◌<◌, ◌≤◌, min, max, Bool, true, false, not, ◌&&◌, ◌==◌, nat_lt, nat_le, if◌then◌else◌, List, [], ◌∷◌, length, map, sum, sum_by, slice_index, slice_index_or}
use Rattle.std.specs.List.{AllZip}
use Rattle.std.specs.Int.{div_ceil}
use Rattle.mad_widths.specs.Turns.{grants}

-- what the cells of a column need: the width in which each of them fits, at least three, and their average width
pub record Needs : Type 0 where
  pub natural : ℕ
  pub average : ℕ

-- the widest of these, 0 where there is none
abbrev pub widest : List ℕ → ℕ
widest [] = 0
widest (w ∷ ws) = max w (widest ws)

-- the average of `count` widths whose sum is `total`, rounded up; 0 of none
abbrev pub average_width : ℕ → ℕ → ℕ
average_width total count = if count == 0 then 0 else div_ceil total count

-- what cells of these widths need
abbrev pub needs_of : List ℕ → Needs
needs_of ws = record { natural = max (widest ws) 3; average = average_width (sum ws) (length ws) }

-- the widths in which all cells fit, column by column
abbrev pub natural_widths : List Needs → List ℕ
natural_widths ns = map (λ n. n.natural) ns

-- each width less what its column gives up
abbrev pub narrowed : List ℕ → List ℕ → List ℕ
narrowed [] cuts = []
narrowed (w ∷ ws) [] = w ∷ ws
narrowed (w ∷ ws) (c ∷ cs) = (w - c) ∷ narrowed ws cs

-- what a column is wider than its cells' average
abbrev pub over_average : Needs → ℕ
over_average n = n.natural - n.average

-- what a column can easily give up: what it is wider than its cells' average, where that is more than one, and four at most
abbrev pub spare : Needs → ℕ
spare n = if nat_lt 4 n.natural && nat_lt 1 (over_average n) then min (over_average n) 4 else 0

-- A column's share of a goal, where all columns together can easily give up `spares`. It is in proportion to what the column
-- is wider than its cells' average, down to a width of four.
abbrev pub first_request : ℕ → ℕ → Needs → ℕ
first_request spares goal n =
    if nat_lt 0 goal && (nat_lt 4 n.natural && nat_lt 0 (over_average n)) then min (div_ceil (over_average n * goal) spares) (n.natural - 4) else 0

-- what the columns request to give up in the first step
unfoldable pub first_requests : ℕ → List Needs → List ℕ
first_requests excess ns = map (first_request (sum_by spare ns) (min (sum_by spare ns) excess)) ns

-- what columns are wider than three, together
abbrev pub above_three : List ℕ → ℕ
above_three ws = sum_by (λ w. w - 3) ws

-- a column's share of the excess that is left, in proportion to what it is wider than three, down to a width of three
abbrev pub second_request : ℕ → ℕ → ℕ → ℕ
second_request excess above w = min (div_ceil ((w - 3) * excess) above) (w - 3)

-- what the columns request to give up in the second step
unfoldable pub second_requests : ℕ → List ℕ → List ℕ
second_requests excess ws = map (second_request excess (above_three ws)) ws

-- the widths after the first step
unfoldable pub after_first : ℕ → List Needs → List ℕ
after_first available ns =
    let ws = natural_widths ns in
    let excess = sum ws - available in
    narrowed ws (grants ws (first_requests excess ns) excess)

-- the widths after the second step
unfoldable pub after_second : ℕ → List Needs → List ℕ
after_second available ns =
    let ws = after_first available ns in
    let excess = sum ws - available in
    narrowed ws (grants (natural_widths ns) (second_requests excess ws) excess)

-- the columns get less than they need: there are several, and their natural widths are more than is available
abbrev pub is_reduced : ℕ → List Needs → Bool
is_reduced available ns = nat_lt available (sum (natural_widths ns)) && not (length ns == 1)

-- the widths of columns with these needs
unfoldable pub column_widths : ℕ → List Needs → List ℕ
column_widths available ns =
    if nat_le (sum (natural_widths ns)) available then natural_widths ns
    else if length ns == 1 then available ∷ []
    else after_second available ns

-- of two columns with the same needs the right one is no narrower
abbrev pub AreEven : List Needs → List ℕ → Type 0
AreEven ns widths = (i j : ℕ) (d : Needs) → i < j → j < length ns → slice_index_or ns i d ≡ slice_index_or ns j d → slice_index widths i ≤ slice_index widths j

-- What every such list of widths is, whatever the steps: the natural widths where they fit. Else a single column has all
-- that is available. Several have widths from three to the natural ones, whose sum is exactly what is available.
pub record AreShared (available : ℕ) (naturals : List ℕ) (reduced : Bool) (widths : List ℕ) : Type 0 where
  pub fitting : sum naturals ≤ available → (widths ≡ naturals) × (reduced ≡ false)
  pub single : available < sum naturals → length naturals ≡ 1 → (widths ≡ available ∷ []) × (reduced ≡ false)
  pub shared : available < sum naturals → length naturals ≢ 1 → (sum widths ≡ available) × AllZip (λ w n. (3 ≤ w) × (w ≤ n)) widths naturals × (reduced ≡ true)

-- the widths after the first step, together what is available and what is left of the excess
pub record IsHalfway (available left : ℕ) (ns : List Needs) (ws : List ℕ) : Type 0 where
  pub is : ws ≡ after_first available ns
  pub sum_is : sum ws ≡ available + left

-- the widths that both steps leave: their sum is exactly what is available, and they are from three to the natural ones
pub record AreReduced (available : ℕ) (ns : List Needs) (ws : List ℕ) : Type 0 where
  pub is : ws ≡ after_second available ns
  pub sum_is : sum ws ≡ available
  pub within : AllZip (λ w n. (3 ≤ w) × (w ≤ n)) ws (natural_widths ns)
  pub even : AreEven ns ws
