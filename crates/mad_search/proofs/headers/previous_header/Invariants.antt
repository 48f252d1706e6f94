use Rattle.std.proofs.Common.{◌≡◌, ◌≤◌, find, take, reverse, length}
use Rattle.mad_search.specs.Headers.{is_above}
use Rattle.mad_search.proofs.headers.previous_header.Given as goal

-- what is found among the starts that are left
abbrev pub invariant-starts : goal.invariant-starts
invariant-starts l = record {
  within : l.left ≤ length l.starts;
  found : find (is_above l.lines l.row) (reverse (take l.left l.starts)) ≡ find (is_above l.lines l.row) (reverse l.starts);
}

abbrev pub decreases-starts : goal.decreases-starts
decreases-starts l = l.left
