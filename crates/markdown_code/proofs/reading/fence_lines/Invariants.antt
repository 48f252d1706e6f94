use Rattle.std.proofs.Common.{◌≡◌, ◌++◌, length, map}
use Rattle.markdown_blocks.specs.Lines.{text_lines}
use Rattle.markdown_code.specs.CodeTexts.{fence_lines}
use Rattle.markdown_marks.specs.Remaining.{remaining, whole}
use Rattle.markdown_code.proofs.reading.fence_lines.Given as goal

abbrev pub invariant-loop-rest : goal.invariant-loop-rest
invariant-loop-rest l = map remaining l.lines.items ++ map whole (text_lines l.rest) ≡ fence_lines l.info l.text

abbrev pub decreases-loop-rest : goal.decreases-loop-rest
decreases-loop-rest l = length l.rest
