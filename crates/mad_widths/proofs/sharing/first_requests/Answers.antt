use Rattle.std.proofs.Common.{ap, ◌∙◌, map, min, rules}
use Rattle.std.proofs.lemmas.Iterator.{YieldsList-from_slice, YieldsList-from_map, items_from_collect}
use Rattle.std.proofs.lemmas.Result.{IfOk-weaker}
use Rattle.mad_widths.specs.ColumnWidths.{first_request, first_requests}
use Rattle.mad_widths.specs.SeenCells.{needs_in}
use Rattle.mad_widths.proofs.LoopLemmas.{map_twice}
use Rattle.mad_widths.proofs.sharing.first_requests.Goals as goal

pub returns : goal.returns
unfolding first_requests
returns c =
    let columns = c.args.columns.now in
    let share = first_request c.spares_of-spares.result c.capped-goal.result in
    let same =
    map_twice needs_in share columns
    ∙ ap (λ g. map (first_request c.spares_of-spares.result g) (map needs_in columns)) c.capped-goal.ensures
    ∙ ap (λ s. map (first_request s (min s c.args.excess)) (map needs_in columns)) c.spares_of-spares.ensures in
    IfOk-weaker c.collect.result _ _ (λ requests is. is ∙ same) (items_from_collect c.collect.result c.collect.ensures.ran
    (YieldsList-from_map _ (λ column. share (needs_in column)) (YieldsList-from_slice columns cc) c.map.ensures.closure (λ x r q k. search rules)))
