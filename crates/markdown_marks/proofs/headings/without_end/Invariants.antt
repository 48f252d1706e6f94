use Rattle.std.proofs.Common.{◌≤◌, length}
use Rattle.markdown_marks.specs.Headings.{is_either}
use Rattle.markdown_marks.proofs.EndLemmas.{LeavesSame}
use Rattle.markdown_marks.proofs.headings.without_end.Given as goal

abbrev pub invariant-loop-len : goal.invariant-loop-len
invariant-loop-len l = record { same : LeavesSame (is_either l.first l.second) l.bytes l.len; within : l.len ≤ length l.bytes }

abbrev pub decreases-loop-len : goal.decreases-loop-len
decreases-loop-len l = l.len
