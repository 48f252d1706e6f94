use Rattle.std.proofs.Common.{◌≡◌, ◌≤◌, ◌++◌, ◌-◌, length, drop}
use Rattle.mad_blocks.specs.CodeBlocks.{blocks_among, code_blocks}
use Rattle.mad_blocks.specs.LayoutParts.{parts_of}
use Rattle.mad_blocks.proofs.code_blocks.find_blocks.Given as goal

abbrev pub invariant-loop-block : goal.invariant-loop-block
invariant-loop-block l = record {
  inside : l.start ≤ length l.lines;
  so_far : l.blocks.items ++ blocks_among l.start (parts_of (drop l.start l.lines)) ≡ code_blocks l.lines;
}

abbrev pub decreases-loop-block : goal.decreases-loop-block
decreases-loop-block l = length l.lines - l.start
