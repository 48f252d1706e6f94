use Rattle.std.proofs.Common.{◌∙◌, ◌<◌, ◌/◌, List, length, arith, ap, sym, subst}
use Rattle.std.specs.Prelude.{IsOk}
use Rattle.std.specs.Global.{Vec}
use Rattle.mad_list_rows.specs.Chunks.{all_of}
use Rattle.mad_list_rows.proofs.ChunkLemmas.{done, cut_there}
use Rattle.mad_list_rows.proofs.chunks.cut_chunk.Goals as goal

pub returns-in-Ok-split_off : goal.returns-in-Ok-split_off
returns-in-Ok-split_off g c =
    let cs = c.try_reserve.new.self.items in
    let room : IsOk c.insert-put.result = c.insert-put.ensures.succeeds (omega (arith, c.in-Ok.ensures.ok)) in
    let put = done c.insert-put.result c.insert-put.new.self.items _ _ c.insert-put.ensures.items room in
    let there : c.args.chunk < length cs = subst (λ (ys : List (Vec g.row.X.Denot)). c.args.chunk < length ys) (sym c.try_reserve.ensures.items) c.requires in
    ap (λ (ys : List (Vec g.row.X.Denot)). all_of ys) put
    ∙ cut_there cs c.args.chunk (c.len-half.result / 2) c.index_mut.result.now c.split_off.new.self c.in-Ok-split_off.back there c.index_mut.ensures.value c.in-Ok-split_off.ensures.items c.in-Ok-split_off.ensures.tail
    ∙ ap (λ (ys : List (Vec g.row.X.Denot)). all_of ys) c.try_reserve.ensures.items
