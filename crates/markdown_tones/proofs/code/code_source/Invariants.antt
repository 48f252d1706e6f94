use Rattle.std.proofs.Common.{◌≡◌, ◌++◌, map, length}
use Rattle.markdown_marks.specs.Remaining.{remaining}
use Rattle.markdown_tones.specs.CodeSource.{code_source}
use Rattle.markdown_tones.proofs.code.code_source.Given as goal

abbrev pub invariant-loop-rest : goal.invariant-loop-rest
invariant-loop-rest l = l.source.items ++ code_source (map remaining l.rest) ≡ code_source (map remaining l.lines)

abbrev pub decreases-loop-rest : goal.decreases-loop-rest
decreases-loop-rest l = length l.rest
