use Rattle.std.proofs.Common.{◌≤◌, length}
use Rattle.markdown_live.specs.ShownLines.{is_sign}
use Rattle.markdown_live.proofs.SignLemmas.{LeavesSame}
use Rattle.markdown_live.proofs.shown_lines.without_signs.Given as goal

abbrev pub invariant-loop-len : goal.invariant-loop-len
invariant-loop-len l = record { same : LeavesSame is_sign l.line l.len; within : l.len ≤ length l.line }

abbrev pub decreases-loop-len : goal.decreases-loop-len
decreases-loop-len l = l.len
