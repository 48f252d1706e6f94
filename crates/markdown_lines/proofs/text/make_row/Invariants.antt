use Rattle.std.proofs.Common.{◌≡◌, ◌++◌, map, length}
use Rattle.mad_md.specs.Lines.{styled_runs}
use Rattle.markdown_lines.specs.Lines.{cell_said}
use Rattle.markdown_lines.specs.Said.{said}
use Rattle.markdown_lines.proofs.text.make_row.Given as goal

abbrev pub invariant-loop-rest : goal.invariant-loop-rest
invariant-loop-rest l = map styled_runs l.cells.items ++ map (cell_said (said l.runs)) l.rest ≡ map (cell_said (said l.runs)) l.ranges

abbrev pub decreases-loop-rest : goal.decreases-loop-rest
decreases-loop-rest l = length l.rest
