use Rattle.std.proofs.Common.{◌-◌, ap, ◌∙◌, map, rules}
use Rattle.std.proofs.lemmas.Iterator.{YieldsList-from_slice, YieldsList-from_map, items_from_collect}
use Rattle.std.proofs.lemmas.Result.{IfOk-weaker}
use Rattle.mad_widths.specs.ColumnWidths.{second_request, second_requests}
use Rattle.mad_widths.proofs.sharing.second_requests.Goals as goal

pub returns : goal.returns
unfolding second_requests
returns c =
    let widths = c.args.widths.now in
    let above = c.above_three-above.result in
    let same = ap (λ a. map (second_request (a - c.args.kept) a) widths) c.above_three-above.ensures in
    IfOk-weaker c.collect.result _ _ (λ requests is. is ∙ same) (items_from_collect c.collect.result c.collect.ensures.ran
    (YieldsList-from_map _ (second_request (above - c.args.kept) above) (YieldsList-from_slice widths cc) c.map.ensures.closure (λ x r q k. search rules)))
