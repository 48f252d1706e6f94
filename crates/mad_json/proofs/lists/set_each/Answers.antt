use Rattle.std.proofs.Common.{◌≡◌, length, get_or, ap, arith}
use Rattle.std.proofs.lemmas.Grind.{common_steps}
use Rattle.std.proofs.lemmas.List.Edits.{map_over_more}
use Rattle.mad_json.specs.Lists.{header_with}
use Rattle.mad_json.proofs.lists.set_each.Goals as goal

pub loop-header-preserved : goal.loop-header-preserved
loop-header-preserved c =
    let old = c.args.headers.now in
    let headers = c.loop-header.headers in
    let i = c.loop-header.header-index in
    let same : length headers ≡ length old = grind (arith, common_steps, c.loop-header.invariant) in
    rw c.header_with.ensures
    (map_over_more (header_with c.args.line.now) old headers i (get_or headers i c.header-item.result) (omega (arith, same, c.loop-header-test.true)) c.loop-header.invariant
    (ap (get_or headers i) c.header-item.is))
