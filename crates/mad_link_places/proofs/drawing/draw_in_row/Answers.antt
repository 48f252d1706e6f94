use Rattle.std.proofs.Common.{OnOk, Some, subst, sym}
use Rattle.mad_format.specs.declared.line.FmtLine.{FmtLine}
use Rattle.mad_pages.specs.Fronts.{front_content}
use Rattle.mad_term.specs.Trace.{TookWith}
use Rattle.mad_link_places.specs.Numbers.{IsNumberIn}
use Rattle.mad_link_places.proofs.drawing.draw_in_row.Goals as goal

pub returns-in-Normal : goal.returns-in-Normal
returns-in-Normal g c =
    subst (λ (l : FmtLine). OnOk c.draw_in_line.result (TookWith (g.O.Out.seen c.args.out.now) (g.O.Out.seen c.draw_in_line.new.out) (IsNumberIn c.args.skin.now c.args.style c.args.room (front_content c.args.front) c.args.y c.args.place (Some l))))
    (sym c.in-Normal.is) c.draw_in_line.ensures
