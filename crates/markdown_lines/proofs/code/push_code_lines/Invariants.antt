use Rattle.std.proofs.Common.{◌≡◌, ◌++◌, map, length}
use Rattle.markdown_marks.specs.Remaining.{remaining}
use Rattle.markdown_lines.specs.Code.{code_lines}
use Rattle.markdown_lines.specs.Shown.{shown}
use Rattle.markdown_lines.proofs.code.push_code_lines.Given as goal

abbrev pub invariant-loop-rest : goal.invariant-loop-rest
invariant-loop-rest l = shown l.lines ++ code_lines l.column (map remaining l.rest) ≡ shown l.fn.lines ++ code_lines l.column (map remaining l.code)

abbrev pub decreases-loop-rest : goal.decreases-loop-rest
decreases-loop-rest l = length l.rest
