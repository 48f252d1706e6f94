use Rattle.markdown_writing.proofs.BlockLemmas.{put_block}
use Rattle.markdown_writing.proofs.writing.+blocks.Goals as goal

pub markdown_of-loop-block-preserved : goal.markdown_of-loop-block-preserved
markdown_of-loop-block-preserved t c =
    put_block _ c.loop-block.text.items c.push_gap.new.out.items c.push_block.new.out.items c.loop-block.some c.args.page.now c.loop-block.block-index c.block-item.result c.loop-block-test.true c.block-item.is
    c.in_ok-push_gap.ensures c.in_ok-push_block.ensures c.loop-block.invariant
