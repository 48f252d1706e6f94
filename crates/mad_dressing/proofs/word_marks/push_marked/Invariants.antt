use Rattle.std.proofs.Common.{◌≡◌, ◌++◌, map, length}
use Rattle.mad_md.specs.Flagged.{run_of}
use Rattle.mad_dressing.specs.WordFlags.{flags_said}
use Rattle.mad_dressing.specs.WordMarks.{marked_runs}
use Rattle.mad_dressing.proofs.word_marks.push_marked.Given as goal

abbrev pub invariant-loop-rest : goal.invariant-loop-rest
invariant-loop-rest l = map run_of l.compounds.items ++ marked_runs l.strong (flags_said l.before) (flags_said l.after) (map run_of l.rest) ≡ map run_of l.fn.compounds.items ++ marked_runs l.strong (flags_said l.fn.before) (flags_said l.after) (map run_of l.fn.text)

abbrev pub decreases-loop-rest : goal.decreases-loop-rest
decreases-loop-rest l = length l.rest
