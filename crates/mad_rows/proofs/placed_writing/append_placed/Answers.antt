use Rattle.std.proofs.Common.{string_bytes}
use Rattle.std.proofs.lemmas.Result.{on_ok_weaker}
use Rattle.mad_rows.proofs.PlacedLemmas.{composite_put}
use Rattle.mad_rows.proofs.placed_writing.append_placed.Goals as goal

pub returns : goal.returns
returns c =
    let placed = c.args.placed in
    let front = rw c.ends.ensures.front at c.in_ok-append_front.ensures in
    on_ok_weaker c.append_end.result
    (λ put.
    let end = rw c.ends.ensures.end at put in
    composite_put placed.skin.now placed.place.outer placed.place.margins placed.place.filled placed.composite.now c.line_style-style.result.now c.deref.result.now (string_bytes c.args.rows.now) (string_bytes c.reserve.new.self)
    (string_bytes c.append_front.new.rows) (string_bytes c.append_compounds.new.rows) (string_bytes c.append_end.new.rows) c.line_style-style.ensures c.deref.ensures.value c.in_ok-reserve.ensures.bytes front c.in_ok-append_compounds.ensures end)
    c.append_end.ensures
