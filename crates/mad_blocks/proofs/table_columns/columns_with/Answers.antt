use Rattle.std.proofs.Common.{refl}
use Rattle.mad_blocks.proofs.TableLemmas.{columns_more}
use Rattle.mad_blocks.proofs.table_columns.columns_with.Goals as goal

pub loop-i-preserved : goal.loop-i-preserved
loop-i-preserved c =
    columns_more c.args.widths.now c.args.aligns.now c.loop-i.i _ c.loop-i.columns.items c.push.new.self.items _ c.align_at.result c.loop-i-test.true c.loop-i.invariant refl c.align_at.ensures c.in_ok-push.ensures.items
