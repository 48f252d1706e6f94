use Rattle.std.proofs.Common.{arith}
use Rattle.mad_pager.specs.Sessions.{state_of}
use Rattle.mad_pager.proofs.DrawnLemmas.{lines_along}
use Rattle.mad_pager.proofs.session.Session.draw_lines.Goals as goal

pub returns : goal.returns
returns g c =
    lines_along c.args.self.now.skin.now (state_of c.args.self.now) c.paged_skin.result c.bar.result c.as_slice.result.now c.as_slice-2.result.now c.room.result c.body_rows.result (g.O.Out.seen c.args.out.now) (g.O.Out.seen c.draw_page_rows.new.out) c.requires (omega arith)
    c.paged_skin.ensures c.bar.ensures c.as_slice.ensures.value c.as_slice-2.ensures.value c.room.ensures c.body_rows.ensures c.in_ok-draw_page_rows.ensures.shown
