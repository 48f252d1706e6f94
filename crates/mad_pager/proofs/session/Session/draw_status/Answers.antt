use Rattle.std.proofs.Common.{◌∙◌, ap, sym, subst, arith}
use Rattle.mad_measure.specs.Areas.{IsWithinLimits}
use Rattle.mad_measure.specs.declared.area.Area.{Area}
use Rattle.mad_pager.specs.Sessions.{state_of}
use Rattle.mad_pager.proofs.DrawnLemmas.{status_kept, status_written}
use Rattle.mad_pager.proofs.session.Session.draw_status.Goals as goal

pub draw_line-requires-clause-within : goal.draw_line-requires-clause-within
draw_line-requires-clause-within g c = subst (λ (a : Area). IsWithinLimits a) (sym c.last_row-area.ensures) (record { columns = omega arith; rows = omega arith })

pub draw_line-requires-clause-one : goal.draw_line-requires-clause-one
draw_line-requires-clause-one g c = ap (λ (a : Area). a.height) c.last_row-area.ensures

pub returns-clause-writes : goal.returns-clause-writes
returns-clause-writes g c =
    let self = c.args.self.now in
    status_written _ self.skin.now self.name.now c.as_str.result.now (state_of self) c.status_skin-skin.result c.in_ok-line.line c.last_row-area.result (g.O.Out.seen c.args.out.now) (g.O.Out.seen c.draw_line.new.out) c.status_skin-skin.ensures (c.as_str.ensures.value ∙ c.in_ok-words.ensures)
    c.in_ok-line.ensures c.last_row-area.ensures c.draw_line.ensures.writes

pub returns-clause-shown : goal.returns-clause-shown
returns-clause-shown g c =
    let self = c.args.self.now in
    status_kept _ self.skin.now self.name.now c.as_str.result.now (state_of self) c.status_skin-skin.result c.in_ok-line.line c.last_row-area.result (g.O.Out.seen c.args.out.now) (g.O.Out.seen c.draw_line.new.out) c.status_skin-skin.ensures (c.as_str.ensures.value ∙ c.in_ok-words.ensures)
    c.in_ok-line.ensures c.last_row-area.ensures c.draw_line.ensures.shown
