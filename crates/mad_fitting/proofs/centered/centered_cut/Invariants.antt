use Rattle.std.proofs.Common.{◌≡◌, ◌≤◌, ◌<◌, ◌+◌, ◌-◌, ℕ, chars, length}
use Rattle.mad_measure.specs.TextColumns.{columns}
use Rattle.mad_fitting.specs.CenteredCuts.{IsMiddle, middle}
use Rattle.mad_fitting.proofs.centered.centered_cut.Given as goal

abbrev pub invariant-loop-middle : goal.invariant-loop-middle
invariant-loop-middle l = record {
  is : IsMiddle l.middle;
  text : l.middle.text.now ≡ l.text;
  most : l.middle.columns ≤ l.excess + 3;
  fewest : (n : ℕ) → n < l.middle.count → columns (middle n (chars l.middle.text.now)) ≤ l.excess;
}

abbrev pub decreases-loop-middle : goal.decreases-loop-middle
decreases-loop-middle l = length l.text - l.middle.count
