use Rattle.std.proofs.Common.{length, ◌-◌}
use Rattle.mad_blocks.proofs.CodeBlockLemmas.{PlacedSoFar}
use Rattle.mad_blocks.proofs.code_blocks.justify_blocks.Given as goal

abbrev pub invariant-loop-block : goal.invariant-loop-block
invariant-loop-block l = PlacedSoFar l.room l.fn.lines l.lines l.start

abbrev pub decreases-loop-block : goal.decreases-loop-block
decreases-loop-block l = length l.lines - l.start
