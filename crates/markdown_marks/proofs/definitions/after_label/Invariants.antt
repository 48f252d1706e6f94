use Rattle.std.proofs.Common.{◌≡◌, ◌≤◌, false, length}
use Rattle.markdown_marks.specs.Definitions.{after_label}
use Rattle.markdown_marks.proofs.definitions.after_label.Given as goal

abbrev pub invariant-loop-rest : goal.invariant-loop-rest
invariant-loop-rest l = record { left : after_label l.count l.some l.escaped l.rest ≡ after_label 0 false false l.bytes; few : l.count ≤ 999 }

abbrev pub decreases-loop-rest : goal.decreases-loop-rest
decreases-loop-rest l = length l.rest
