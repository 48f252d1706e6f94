use Rattle.std.proofs.Common.{◌≡◌, ◌*◌, ◌-◌, ◌^◌, ◌≤◌, take, sum_by}
use Rattle.mad_widths.proofs.sharing.above_three.Given as goal

abbrev pub invariant-loop-width : goal.invariant-loop-width
invariant-loop-width l = record {
  so_far : l.total ≡ sum_by (λ w. w - 3) (take l.width-index l.widths);
  bound : l.total ≤ l.width-index * (2 ^ 64 - 1);
}
