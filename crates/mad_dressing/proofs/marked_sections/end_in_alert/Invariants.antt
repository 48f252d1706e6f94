use Rattle.std.proofs.Common.{◌≡◌, length}
use Rattle.mad_dressing.specs.WordMarks.{end_in_alert}
use Rattle.mad_dressing.proofs.MarkLemmas.{ends_from}
use Rattle.mad_dressing.proofs.marked_sections.end_in_alert.Given as goal

abbrev pub invariant-loop-rest : goal.invariant-loop-rest
invariant-loop-rest l = ends_from l.last l.rest ≡ end_in_alert l.fn.gutters

abbrev pub decreases-loop-rest : goal.decreases-loop-rest
decreases-loop-rest l = length l.rest
