use Rattle.std.proofs.Common.{◌≡◌, length, map}
use Rattle.mad_md.specs.Lines.{styled_runs}
use Rattle.mad_sections.specs.Items.{are_short}
use Rattle.mad_sections.proofs.items.are_short.Given as goal

abbrev pub invariant-loop-rest : goal.invariant-loop-rest
invariant-loop-rest l = are_short l.room (map styled_runs l.rest) ≡ are_short l.room (map styled_runs l.heads)

abbrev pub decreases-loop-rest : goal.decreases-loop-rest
decreases-loop-rest l = length l.rest
