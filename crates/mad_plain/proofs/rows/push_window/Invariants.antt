use Rattle.std.proofs.Common.{◌≡◌, ◌++◌, length}
use Rattle.mad_plain.specs.Rows.{window}
use Rattle.mad_plain.specs.Shown.{shown_of, shown_so_far, rest_of}
use Rattle.mad_plain.proofs.rows.push_window.Given as goal

abbrev pub invariant-loop-at : goal.invariant-loop-at
invariant-loop-at l = shown_so_far l.shown ++ window l.fn.a l.fn.b l.at (rest_of l.rest) ≡ shown_so_far l.fn.shown ++ window l.fn.a l.fn.b 0 (shown_of l.fn.line)

abbrev pub decreases-loop-at : goal.decreases-loop-at
decreases-loop-at l = length l.rest.text.now
