use Rattle.std.proofs.Common.{◌<◌, ◌+◌, List, Some, length, arith, ap}
use Rattle.std.specs.Global.{Vec}
use Rattle.mad_list_rows.specs.declared.list_rows.ListRow.{ListRow}
use Rattle.mad_list_rows.specs.Answers.{IsAnswered}
use Rattle.mad_list_rows.specs.Chunks.{all_of}
use Rattle.mad_list_rows.proofs.ChunkLemmas.{rest_same}
use Rattle.mad_list_rows.proofs.FilterLemmas.{answered_chunk, counted_chunk, few_shown, same_chunk}
use Rattle.mad_list_rows.proofs.filtering.filter_chunks.Goals as goal

pub overflow_add-count : goal.overflow_add-count
overflow_add-count g c =
    let xs = c.deref_mut-chunk-items.result.now in
    let ys = c.loop-chunk.chunk-items in
    let i = c.loop-chunk.chunk-index in
    let counted = counted_chunk ys i c.loop-chunk.count c.filter_rows-count.result c.filter_rows-count.new.rows (omega (arith, c.loop-chunk-test.true)) c.filter_rows-count.ensures.count c.loop-chunk.invariant.0 in
    let same = same_chunk xs ys i c.chunk-item.result c.filter_rows-count.new.rows (omega (arith, c.loop-chunk-test.true)) (omega (arith, c.loop-chunk-test.true, c.loop-chunk.auto.chunk-items)) c.filter_rows-count.ensures.kept c.loop-chunk.invariant.1 c.loop-chunk.invariant.2 in
    let few = few_shown xs (i + 1) _ same in
    let whole = ap (λ (zs : List (Vec (ListRow g.row.T.Denot))). length (all_of zs)) c.deref_mut-chunk-items.ensures.value in
    omega (arith, counted, few, whole, c.requires)

pub loop-chunk-preserved : goal.loop-chunk-preserved
loop-chunk-preserved g c =
    let xs = c.deref_mut-chunk-items.result.now in
    let ys = c.loop-chunk.chunk-items in
    let i = c.loop-chunk.chunk-index in
    let new = c.filter_rows-count.new.rows in
    let kept = c.loop-chunk.invariant in
    let within : i < length ys = omega (arith, c.loop-chunk-test.true) in (
      counted_chunk ys i c.loop-chunk.count c.filter_rows-count.result new within c.filter_rows-count.ensures.count kept.0,
      same_chunk xs ys i c.chunk-item.result new within (omega (arith, c.loop-chunk-test.true, c.loop-chunk.auto.chunk-items)) c.filter_rows-count.ensures.kept kept.1 kept.2,
      rest_same xs ys i new kept.2,
      answered_chunk (IsAnswered g.F.RowFilter.answers (Some c.args.filter.now)) ys i new within kept.3 c.filter_rows-count.ensures.answered,
    )
