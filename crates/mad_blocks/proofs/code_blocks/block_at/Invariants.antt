use Rattle.std.proofs.Common.{length, ◌-◌, ◌+◌}
use Rattle.mad_blocks.proofs.CodeBlockLemmas.{CodeSoFar}
use Rattle.mad_blocks.proofs.code_blocks.block_at.Given as goal

abbrev pub invariant-loop-height : goal.invariant-loop-height
invariant-loop-height l = CodeSoFar l.lines l.start l.height l.width

abbrev pub decreases-loop-height : goal.decreases-loop-height
decreases-loop-height l = length l.lines - (l.start + l.height)
