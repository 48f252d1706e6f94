use Rattle.std.proofs.Common.{◌≡◌, ◌≤◌, ◌+◌, ◌-◌, ℕ, Result}
use Rattle.regex.specs.Strings.{regex_pattern}
use Rattle.std.specs.List.{range_with_len}
use Rattle.mad_term.specs.Trace.{Trace, TookWith}
use Rattle.mad_term.specs.declared.errors.Error.{Error}
use Rattle.mad_hits.specs.FrontHits.{AreRowsMarked, WritesRowsHits}
use Rattle.mad_hits.proofs.drawing.draw_row_hits.Given as goal

-- what is done and what is done of the rows from here on is what is done of all; the rows so far were marked
abbrev pub invariant-rows : goal.invariant-rows
invariant-rows g l = record {
  within : l.y ≤ l.count;
  writes : (r : Result (Unit {0}) Error) (new : Trace) (row n : ℕ) → row ≡ l.top + l.y → n + l.y ≡ l.count
      → WritesRowsHits l.skin l.style l.room (regex_pattern l.sought) l.lines l.fronts l.starts l.y (range_with_len row n) (g.O.Out.seen l.out) r new
      → WritesRowsHits l.skin l.style l.room (regex_pattern l.sought) l.lines l.fronts l.starts 0 (range_with_len l.top l.count) (g.O.Out.seen l.fn.out) r new;
  marked : TookWith (g.O.Out.seen l.fn.out) (g.O.Out.seen l.out) (AreRowsMarked l.skin l.style l.room (regex_pattern l.sought) l.lines l.fronts l.starts 0 (range_with_len l.top l.y));
}

abbrev pub decreases-rows : goal.decreases-rows
decreases-rows g l = l.count - l.y
