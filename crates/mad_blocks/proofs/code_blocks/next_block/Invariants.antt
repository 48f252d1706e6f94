use Rattle.std.proofs.Common.{length, ◌-◌}
use Rattle.mad_blocks.proofs.CodeBlockLemmas.{NoCodeSoFar}
use Rattle.mad_blocks.proofs.code_blocks.next_block.Given as goal

abbrev pub invariant-loop-start : goal.invariant-loop-start
invariant-loop-start l = NoCodeSoFar l.lines l.from l.start

abbrev pub decreases-loop-start : goal.decreases-loop-start
decreases-loop-start l = length l.lines - l.start
