use Rattle.std.proofs.Common.{◌≡◌, map, length}
use Rattle.mad_md.specs.Flagged.{run_of, unflagged}
use Rattle.mad_dressing.specs.WordFlags.{flags_said}
use Rattle.mad_dressing.specs.WordMarks.{last_flags}
use Rattle.mad_dressing.proofs.word_marks.last_flags.Given as goal

abbrev pub invariant-loop-rest : goal.invariant-loop-rest
invariant-loop-rest l = last_flags l.strong (flags_said l.last) (map run_of l.rest) ≡ last_flags l.strong unflagged (map run_of l.fn.text)

abbrev pub decreases-loop-rest : goal.decreases-loop-rest
decreases-loop-rest l = length l.rest
