use Rattle.std.proofs.Common.{arith}
use Rattle.mad_list_rows.proofs.FilterLemmas.{show_chunk}
use Rattle.mad_list_rows.proofs.filtering.show_chunks.Goals as goal

pub loop-chunk-preserved : goal.loop-chunk-preserved
loop-chunk-preserved g c =
    show_chunk c.deref_mut-chunk-items.result.now c.loop-chunk.chunk-items c.loop-chunk.chunk-index c.chunk-item.result c.show_all.new.rows (omega (arith, c.loop-chunk-test.true)) (omega (arith, c.loop-chunk-test.true, c.loop-chunk.auto.chunk-items)) c.show_all.ensures c.loop-chunk.invariant.0 c.loop-chunk.invariant.1
