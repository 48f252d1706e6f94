use Rattle.std.proofs.Common.{OnOk, subst}
use Rattle.mad_hits.specs.Drawn.{IsHitShown}
use Rattle.mad_hits.specs.Hits.{Marked}
use Rattle.mad_pages.specs.Fronts.{front_content}
use Rattle.mad_term.specs.Trace.{TookWith}
use Rattle.mad_link_places.proofs.NumberLemmas.{number_is}
use Rattle.mad_link_places.proofs.drawing.draw_in_line.Goals as goal

pub returns : goal.returns
returns g c =
    subst (λ (m : Marked). OnOk c.draw_chars.result (TookWith (g.O.Out.seen c.args.out.now) (g.O.Out.seen c.draw_chars.new.out) (IsHitShown c.args.room.end c.args.y m)))
    (number_is c.args.skin.now c.args.style c.args.room (front_content c.args.front) c.args.place c.args.composite.now c.line_column.result c.saturating_add-column.result c.as_slice.result.now c.in_ok-digits.digits.items c.line_column.ensures c.saturating_add-column.ensures
    c.as_slice.ensures.value c.in_ok-digits.ensures)
    c.draw_chars.ensures.shown
