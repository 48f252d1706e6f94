use Rattle.std.proofs.Common.{◌≡◌, ◌≤◌, find, take, reverse, length}
use Rattle.std.specs.Prelude.{nat_le}
use Rattle.mad_patterns.proofs.breaks.last_start.Given as goal

-- what is found among the starts that are left
abbrev pub invariant-starts : goal.invariant-starts
invariant-starts l = record {
  within : l.left ≤ length l.starts;
  found : find (λ start. nat_le start l.row) (reverse (take l.left l.starts)) ≡ find (λ start. nat_le start l.row) (reverse l.starts);
}

abbrev pub decreases-starts : goal.decreases-starts
decreases-starts l = l.left
