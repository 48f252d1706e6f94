use Rattle.std.proofs.Common.{◌≤◌, length}
use Rattle.markdown_link_parts.proofs.EndLemmas.{LeavesSame}
use Rattle.markdown_link_parts.proofs.texts.name_start.Given as goal

abbrev pub invariant-loop-len : goal.invariant-loop-len
invariant-loop-len l = record { same : LeavesSame l.path l.len; within : l.len ≤ length l.path }

abbrev pub decreases-loop-len : goal.decreases-loop-len
decreases-loop-len l = l.len
