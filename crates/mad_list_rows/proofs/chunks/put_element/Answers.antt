use Rattle.std.proofs.Common.{◌∙◌, ◌≤◌, length, sym, subst, ap}
use Rattle.std.specs.Global.{Vec}
use Rattle.mad_list_rows.specs.Chunks.{all_of}
use Rattle.mad_list_rows.proofs.ChunkLemmas.{always_err, put_there, set_kept}
use Rattle.mad_list_rows.proofs.chunks.put_element.Goals as goal
use Rattle.mad_list_rows.proofs.chunks.put_element.Goals.{then-len-gt-MOST, else-len-gt-MOST}

pub returns-in_err-insert-clause-err : goal.returns-in_err-insert-clause-err
returns-in_err-insert-clause-err g c =
    let kept = set_kept c.args.chunks.now.items c.args.chunk c.index_mut.result.now c.insert.new.self c.requires.there c.index_mut.ensures.value c.in_err-insert.ensures.items in
    always_err c.from_residual.result _ kept

pub returns-clause-put : goal.returns-clause-put
returns-clause-put g c =
    let within : c.args.at ≤ length c.index_mut.result.now.items = subst (λ (v : Vec g.row.X.Denot). c.args.at ≤ length v.items) (sym c.index_mut.ensures.value) (c.requires.inside c.index_mut.result.now) in
    let put = put_there c.args.chunks.now.items c.args.chunk c.args.at c.args.element c.index_mut.result.now c.insert.new.self c.requires.there c.index_mut.ensures.value within c.in_ok-insert.ensures.items in
    elim c.if-len-gt-MOST.branch [
      | then-len-gt-MOST w ↦ ap (λ (v : Vec (Vec g.row.X.Denot)). all_of v.items) w.chunks-is ∙ w.cut_chunk.ensures ∙ put
      | else-len-gt-MOST w ↦ ap (λ (v : Vec (Vec g.row.X.Denot)). all_of v.items) w.chunks-is ∙ put
    ]
