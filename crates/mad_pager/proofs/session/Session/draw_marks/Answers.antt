use Rattle.std.proofs.Common.{◌-◌, ap, option_map, refl}
use Rattle.regex.specs.Strings.{regex_pattern}
use Rattle.mad_patterns.specs.Readings.{reading_of}
use Rattle.mad_pager.specs.Screens.{room_of}
use Rattle.mad_pager.specs.Sessions.{paged_skin, state_of}
use Rattle.mad_pager.proofs.DrawnLemmas.{hits_along}
use Rattle.mad_pager.proofs.StepLemmas.{marks_none, marks_some}
use Rattle.mad_pager.proofs.session.Session.draw_marks.Goals as goal

pub returns-in_default : goal.returns-in_default
returns-in_default g c = marks_none c.args.self.now.skin.now (state_of c.args.self.now) _ _ (g.O.Out.seen c.args.out.now) c.pattern.ensures (ap (option_map (λ r. regex_pattern r.now)) c.in_default.is)

pub returns : goal.returns
returns g c =
    let s = state_of c.args.self.now in
    let skin = c.args.self.now.skin.now in
    let old = g.O.Out.seen c.args.out.now in
    let new = g.O.Out.seen c.draw_row_hits.new.out in
    marks_some skin s _ (reading_of c.args.reading.now).pattern (regex_pattern c.in-Some.pattern.now) old new c.pattern.ensures (ap (option_map (λ r. regex_pattern r.now)) c.in-Some.is)
    (hits_along (paged_skin skin) c.paged_skin.result skin.hit c.room.result (room_of skin s) c.body_rows.result (s.page.rows - 1) s.page.top (regex_pattern c.in-Some.pattern.now) (regex_pattern c.in-Some.pattern.now) c.as_slice.result.now s.laid.lines.items
    c.as_slice-2.result.now s.laid.fronts.items c.as_slice-3.result.now s.laid.parts.items old new c.paged_skin.ensures c.room.ensures c.body_rows.ensures refl c.as_slice.ensures.value c.as_slice-2.ensures.value c.as_slice-3.ensures.value c.in_ok-draw_row_hits.ensures.shown)
