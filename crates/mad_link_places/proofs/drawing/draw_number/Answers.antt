use Rattle.std.proofs.Common.{[], Option, Some, None, refl, arith}
use Rattle.std.proofs.lemmas.Option.{slice_get_past, slice_get_read}
use Rattle.std.proofs.lemmas.Result.{on_ok_weaker}
use Rattle.mad_format.specs.declared.line.FmtLine.{FmtLine}
use Rattle.mad_hits.proofs.TookLemmas.{took_nothing, took_so}
use Rattle.mad_pages.specs.Fronts.{front_at, front_content}
use Rattle.mad_link_places.specs.Numbers.{IsNumberIn, IsNumberShown}
use Rattle.mad_link_places.proofs.NumberLemmas.{number_shown}
use Rattle.mad_link_places.proofs.drawing.draw_number.Goals as goal

pub returns-in-Some : goal.returns-in-Some
returns-in-Some g c =
    let lines = c.args.lines.now in
    let place = c.args.place.now in
    let skin = c.args.skin.now in
    let front = front_content c.front_at-front.result in
    let line : Option FmtLine = Some c.in-Some.line.now in
    on_ok_weaker c.draw_in_row.result
    (took_so (g.O.Out.seen c.args.out.now) (g.O.Out.seen c.draw_in_row.new.out) (IsNumberIn skin c.args.style c.args.room front c.saturating_sub-y.result place line) (IsNumberShown skin c.args.style c.args.room lines c.args.fronts.now c.args.top place)
    (number_shown skin c.args.style c.args.room lines c.args.fronts.now c.args.top place c.saturating_sub-y.result front line (omega arith) c.saturating_sub-y.ensures c.front_at-front.ensures
    (slice_get_read lines _ place.row c.in-Some.line.now refl c.in-Some.ensures.lookup.3.0 c.in-Some.ensures.lookup.1)))
    c.draw_in_row.ensures

pub returns-in-None : goal.returns-in-None
returns-in-None g c =
    let lines = c.args.lines.now in
    let place = c.args.place.now in
    let skin = c.args.skin.now in
    let line : Option FmtLine = None in
    took_nothing (g.O.Out.seen c.args.out.now) (IsNumberShown skin c.args.style c.args.room lines c.args.fronts.now c.args.top place)
    (number_shown skin c.args.style c.args.room lines c.args.fronts.now c.args.top place c.saturating_sub-y.result (front_at c.args.fronts.now place.row) line (omega arith) c.saturating_sub-y.ensures refl
    (slice_get_past lines place.row c.in-None.ensures.lookup.3) [] refl)
