use Rattle.std.proofs.Common.{◌∙◌, ◌<◌, ◌≤◌, List, length, arith, rules, refl, sym, subst, ap, slice_get}
use Rattle.std.specs.Global.{Vec}
use Rattle.std.proofs.lemmas.List.{take_all}
use Rattle.std.proofs.lemmas.Option.{slice_get_past, slice_get_read}
use Rattle.mad_list_rows.specs.Chunks.{all_of}
use Rattle.mad_list_rows.proofs.ChunkLemmas.{element_in}
use Rattle.mad_list_rows.proofs.chunks.element_at.Goals as goal

pub returns-then-left-len : goal.returns-then-left-len
returns-then-left-len g c =
    let cs = c.args.chunks.now in
    let chunk = c.chunk-item.result in
    let within : c.loop-chunk.left < length chunk.items = omega (arith, c.if-left-len.true, c.len.ensures, chunk.ok.0) in
    let within_it = subst (λ (v : Vec g.row.X.Denot). c.loop-chunk.left < length v.items) c.chunk-item.is within in
    let found = element_in cs c.loop-chunk.chunk-index c.args.index c.loop-chunk.left chunk (omega (arith, c.loop-chunk-test.true)) c.loop-chunk.invariant within_it in
    sym (found ∙ ap (λ (v : Vec g.row.X.Denot). slice_get v.items c.loop-chunk.left) (sym c.chunk-item.is) ∙ slice_get_read chunk.items (length chunk.items) c.loop-chunk.left c.index.result.now refl within (search rules))

pub returns : goal.returns
returns g c =
    let cs = c.args.chunks.now in
    let whole = take_all c.loop-chunk.chunk-index cs (omega (arith, c.loop-chunk-test.false)) in
    let past : length (all_of cs) ≤ c.args.index = omega (arith, c.loop-chunk.invariant, ap (λ (ys : List (Vec g.row.X.Denot)). length (all_of ys)) whole) in
    sym (slice_get_past (all_of cs) c.args.index past)
