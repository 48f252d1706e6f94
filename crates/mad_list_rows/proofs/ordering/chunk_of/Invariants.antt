use Rattle.std.proofs.Common.{◌≡◌, ◌<◌, ◌≤◌, ◌+◌, ◌-◌, Bool, true, false, All, length, take, drop}
use Rattle.std.specs.List.Sorted.{IsSortedBy}
use Rattle.mad_list_rows.specs.Answers.{Orders, by_content}
use Rattle.mad_list_rows.specs.Chunks.{all_of}
use Rattle.mad_list_rows.proofs.ordering.chunk_of.Given as goal

abbrev pub invariant-loop-low : goal.invariant-loop-low
invariant-loop-low g l =
    (l.low ≤ l.high) × (l.high < length l.chunks)
    × ((lt : g.row.T.Denot → g.row.T.Denot → Bool) → Orders g.O.RowOrder.compares l.order lt → IsSortedBy (by_content lt) (all_of l.chunks)
    → All (λ row. lt l.content row.content ≡ false) (all_of (take l.low l.chunks))
    × All (λ row. lt l.content row.content ≡ true) (all_of (drop (l.high + 1) l.chunks)))

abbrev pub decreases-loop-low : goal.decreases-loop-low
decreases-loop-low g l = l.high - l.low
