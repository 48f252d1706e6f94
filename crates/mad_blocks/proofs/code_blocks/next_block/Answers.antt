use Rattle.std.proofs.Common.{arith}
use Rattle.mad_blocks.proofs.CodeBlockLemmas.{no_code_start, no_code_more, no_code_left, next_found}
use Rattle.mad_blocks.proofs.code_blocks.next_block.Goals as goal

pub loop-start-init : goal.loop-start-init
loop-start-init c = no_code_start c.args.lines.now c.args.from c.requires

pub returns-then-block-gt0 : goal.returns-then-block-gt0
returns-then-block-gt0 c = next_found c.args.lines.now c.args.from c.loop-start.start c.block_at-block.result c.loop-start.invariant c.block_at-block.ensures c.if-block-gt0.true

pub loop-start-preserved : goal.loop-start-preserved
loop-start-preserved c =
    no_code_more c.args.lines.now c.args.from c.loop-start.start c.block_at-block.result c.loop-start.invariant c.block_at-block.ensures c.loop-start-test.true (omega (arith, c.if-block-gt0.false))

pub returns : goal.returns
returns c = no_code_left c.args.lines.now c.args.from c.loop-start.start c.loop-start.invariant c.loop-start-test.false
