use Rattle.std.proofs.Common.{◌≡◌, ◌<◌, ◌+◌, ◌∙◌, List, length, get_or, arith, sym, ap}
use Rattle.std.specs.Global.{Vec}
use Rattle.mad_list_rows.specs.declared.list_rows.ListRow.{ListRow}
use Rattle.mad_list_rows.specs.Chunks.{all_of}
use Rattle.mad_list_rows.proofs.ChunkLemmas.{length_more, part_within}
use Rattle.mad_list_rows.proofs.FirstLemmas.{first_found, none_found}
use Rattle.mad_list_rows.proofs.finding.first_from.Given.{Over}
use Rattle.mad_list_rows.proofs.finding.first_from.Goals as goal

-- the chunk's rows are among all
within_all : (g : Over) (c : goal.In-Some g) → c.loop-chunk.start + c.in-Some.i < length (all_of c.args.chunks.now)
within_all g c =
    let part = part_within c.args.chunks.now c.loop-chunk.chunk-index c.chunk-item.result (omega (arith, c.loop-chunk-test.true)) in
    let here : length c.as_slice.result.now ≡ length (get_or c.args.chunks.now c.loop-chunk.chunk-index c.chunk-item.result).items = ap (λ (ys : List (ListRow g.row.T.Denot)). length ys) c.as_slice.ensures.value ∙ ap (λ (v : Vec (ListRow g.row.T.Denot)). length v.items) c.chunk-item.is in
    omega (arith, part, here, c.in-Some.ensures.within, c.loop-chunk.invariant.0)

pub overflow_add-result : goal.overflow_add-result
overflow_add-result g c = omega (arith, within_all g c, c.requires)

pub returns-in-Some-clause-within : goal.returns-in-Some-clause-within
returns-in-Some-clause-within g c = within_all g c

pub returns-in-Some-clause-value : goal.returns-in-Some-clause-value
returns-in-Some-clause-value g c =
    sym (first_found c.args.chunks.now c.loop-chunk.chunk-index c.args.from c.loop-chunk.start c.saturating_sub.result c.in-Some.i c.chunk-item.result c.as_slice.result.now (omega arith) c.chunk-item.is c.as_slice.ensures.value c.loop-chunk.invariant.0 c.saturating_sub.ensures c.loop-chunk.invariant.1 (sym c.in-Some.ensures.value))

pub overflow_add-start : goal.overflow_add-start
overflow_add-start g c =
    let part = part_within c.args.chunks.now c.loop-chunk.chunk-index c.chunk-item.result (omega (arith, c.loop-chunk-test.true)) in
    let here = ap (λ (v : Vec (ListRow g.row.T.Denot)). length v.items) c.chunk-item.is in
    omega (arith, part, here, c.loop-chunk.invariant.0, c.requires, c.chunk-item.result.ok.0, c.len-start.ensures)

pub loop-chunk-preserved : goal.loop-chunk-preserved
loop-chunk-preserved g c =
    let cs = c.args.chunks.now in
    let more = length_more cs c.loop-chunk.chunk-index c.chunk-item.result (omega (arith, c.loop-chunk-test.true)) in
    let here = ap (λ (v : Vec (ListRow g.row.T.Denot)). length v.items) c.chunk-item.is in (
      omega (arith, more, here, c.loop-chunk.invariant.0, c.chunk-item.result.ok.0, c.len-start.ensures),
      none_found cs c.loop-chunk.chunk-index c.args.from c.loop-chunk.start c.saturating_sub.result c.chunk-item.result c.as_slice.result.now (omega arith) c.chunk-item.is c.as_slice.ensures.value c.loop-chunk.invariant.0 c.saturating_sub.ensures c.loop-chunk.invariant.1 (sym c.in_default.ensures.value),
    )
