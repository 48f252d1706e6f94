use Rattle.std.proofs.Common.{◌≡◌, ◌++◌, map, length}
use Rattle.mad_md.specs.Flagged.{unflagged}
use Rattle.mad_md.specs.Lines.{content_of}
use Rattle.mad_dressing.specs.WordFlags.{flags_said}
use Rattle.mad_dressing.specs.WordMarks.{marked_lines}
use Rattle.mad_dressing.proofs.marked_sections.marked_lines.Given as goal

abbrev pub invariant-loop-rest : goal.invariant-loop-rest
invariant-loop-rest l = map content_of l.marked.items ++ marked_lines l.strong (flags_said l.before) (map content_of l.rest) ≡ marked_lines l.fn.strong unflagged (map content_of l.fn.lines)

abbrev pub decreases-loop-rest : goal.decreases-loop-rest
decreases-loop-rest l = length l.rest
