use Rattle.std.proofs.Common.{arith}
use Rattle.mad_blocks.specs.CodeBlocks.{IsNextBlock}
use Rattle.mad_blocks.proofs.CodeBlockLemmas.{so_far_start, so_far_next, so_far_block, so_far_end, fewer_left}
use Rattle.mad_blocks.proofs.code_blocks.justify_blocks.Goals as goal

pub loop-block-init : goal.loop-block-init
loop-block-init c = so_far_start c.args.room c.args.lines.now

pub next_block-requires : goal.next_block-requires
next_block-requires c = c.loop-block.invariant.inside

pub loop-block-smaller : goal.loop-block-smaller
loop-block-smaller c = omega (arith, fewer_left c.loop-block.lines c.loop-block.start c.in-Some.block c.in-Some.ensures, c.justify.auto.lines)

pub loop-block-preserved : goal.loop-block-preserved
loop-block-preserved c =
    let b = c.in-Some.block in
    let next : IsNextBlock c.loop-block.lines c.loop-block.start b = c.in-Some.ensures in
    so_far_block c.args.room c.args.lines.now c.loop-block.lines c.justify.new.lines b.start c.width_within-width.result b
    (so_far_next c.args.room c.args.lines.now c.loop-block.lines c.loop-block.start b c.loop-block.invariant next) next.closed c.width_within-width.ensures c.justify.ensures

pub returns : goal.returns
returns c = so_far_end c.args.room c.args.lines.now c.loop-block.lines c.loop-block.start c.loop-block.invariant c.in_default.ensures
