use Rattle.std.proofs.Common.{◌≡◌, find, drop}
use Rattle.mad_search.specs.Headers.{is_below}
use Rattle.mad_search.proofs.headers.next_header.Given as goal

-- what is found among the starts that are left
abbrev pub invariant-loop-start : goal.invariant-loop-start
invariant-loop-start l = find (is_below l.lines l.row) (drop l.start-index l.starts) ≡ find (is_below l.lines l.row) l.starts
