use Rattle.mad_pager.specs.Screens.{room_of}
use Rattle.mad_pager.specs.Sessions.{paged_skin, state_of}
use Rattle.mad_pager.proofs.FollowLemmas.{numbers_along}
use Rattle.mad_pager.proofs.session.Session.draw_link_numbers.Goals as goal

pub returns : goal.returns
returns g c =
    let s = state_of c.args.self.now in
    let skin = c.args.self.now.skin.now in
    numbers_along (paged_skin skin) c.paged_skin.result skin.number c.room.result (room_of skin s) c.as_slice.result.now s.laid.lines.items c.as_slice-2.result.now s.laid.fronts.items s.page.top c.as_slice-3.result.now c.in_ok-places.places.items _
    (g.O.Out.seen c.args.out.now) (g.O.Out.seen c.draw_numbers.new.out) c.paged_skin.ensures c.room.ensures c.as_slice.ensures.value c.as_slice-2.ensures.value c.as_slice-3.ensures.value c.in_ok-places.ensures c.in_ok-draw_numbers.ensures
