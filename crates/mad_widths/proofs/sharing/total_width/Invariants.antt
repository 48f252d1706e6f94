use Rattle.std.proofs.Common.{◌≡◌, ◌*◌, ◌-◌, ◌^◌, ◌≤◌, take, sum}
use Rattle.mad_widths.proofs.sharing.total_width.Given as goal

abbrev pub invariant-loop-width : goal.invariant-loop-width
invariant-loop-width l = record {
  so_far : l.total ≡ sum (take l.width-index l.widths);
  bound : l.total ≤ l.width-index * (2 ^ 64 - 1);
}
