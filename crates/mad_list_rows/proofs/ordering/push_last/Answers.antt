use Rattle.std.proofs.Common.{◌≡◌, ◌<◌, ◌+◌, ◌-◌, length, arith}
use Rattle.mad_list_rows.proofs.ChunkLemmas.{push_result, kept_result}
use Rattle.mad_list_rows.proofs.ordering.push_last.Goals as goal

pub returns-clause-put : goal.returns-clause-put
returns-clause-put g c =
    let cs = c.args.chunks.now in
    let last : c.len-last.result - 1 + 1 ≡ length cs.items = omega (arith, c.len-last.ensures, c.requires, cs.ok.0) in
    push_result c.push.result cs.items (c.len-last.result - 1) c.args.row c.index_mut.result.now c.push.new.self last c.index_mut.ensures.value c.push.ensures.items

pub returns-clause-err : goal.returns-clause-err
returns-clause-err g c =
    let cs = c.args.chunks.now in
    let within : c.len-last.result - 1 < length cs.items = omega (arith, c.len-last.ensures, c.requires, cs.ok.0) in
    kept_result c.push.result cs.items (c.len-last.result - 1) _ c.index_mut.result.now c.push.new.self within c.index_mut.ensures.value c.push.ensures.items
