use Rattle.std.proofs.Common.{◌≡◌, length}
use Rattle.markdown_marks.specs.Definitions.{are_definitions}
use Rattle.markdown_marks.proofs.definitions.are_definitions.Given as goal

abbrev pub invariant-loop-rest : goal.invariant-loop-rest
invariant-loop-rest l = are_definitions l.count l.rest ≡ are_definitions (length l.text) l.text

abbrev pub decreases-loop-rest : goal.decreases-loop-rest
decreases-loop-rest l = l.count
