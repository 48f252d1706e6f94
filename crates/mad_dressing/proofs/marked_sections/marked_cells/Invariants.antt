use Rattle.std.proofs.Common.{◌≡◌, ◌++◌, map, length}
use Rattle.mad_md.specs.Flagged.{unflagged}
use Rattle.mad_md.specs.Lines.{styled_runs}
use Rattle.mad_dressing.specs.WordMarks.{marked_text}
use Rattle.mad_dressing.proofs.marked_sections.marked_cells.Given as goal

abbrev pub invariant-loop-rest : goal.invariant-loop-rest
invariant-loop-rest l = map styled_runs l.marked.items ++ map (marked_text l.strong unflagged unflagged) (map styled_runs l.rest) ≡ map (marked_text l.strong unflagged unflagged) (map styled_runs l.fn.cells)

abbrev pub decreases-loop-rest : goal.decreases-loop-rest
decreases-loop-rest l = length l.rest
