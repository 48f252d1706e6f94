use Rattle.std.proofs.Common.{◌-◌, ◌∙◌, ap, arith, length}
use Rattle.mad_patterns.specs.Readings.{reading_of}
use Rattle.mad_pager.specs.Screens.{room_of}
use Rattle.mad_pager.specs.Sessions.{layout_width, state_of}
use Rattle.mad_plain_page.specs.PlainTexts.{rows_of_text}
use Rattle.mad_pager.proofs.OwnRowLemmas.{few_rows, own_along}
use Rattle.mad_pager.proofs.session.Session.draw_plain.Goals as goal

pub draw_own_rows-requires : goal.draw_own_rows-requires
draw_own_rows-requires g c = omega (arith, ap length c.as_slice.ensures.value, few_rows c.in_ok-rows.rows.items _ _ c.in_ok-rows.ensures, c.from.ensures, c.body_rows.type_inv)

pub returns : goal.returns
returns g c =
    let s = state_of c.args.self.now in
    let skin = c.args.self.now.skin.now in
    own_along skin.hit c.room.result (room_of skin s) _ (reading_of c.args.reading.now).pattern c.as_slice.result.now c.in_ok-rows.rows.items c.layout_width.result (layout_width skin.room s.page.columns) c.from.result (s.page.rows - 1) s.page.top (rows_of_text c.args.text.now)
    (g.O.Out.seen c.args.out.now) (g.O.Out.seen c.draw_own_rows.new.out) c.room.ensures c.pattern.ensures c.as_slice.ensures.value c.layout_width.ensures (c.from.ensures ∙ c.body_rows.ensures) c.in_ok-rows.ensures c.in_ok-draw_own_rows.ensures
