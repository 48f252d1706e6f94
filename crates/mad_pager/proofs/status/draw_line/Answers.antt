use Rattle.mad_term.proofs.QueueExits.{memory_first}
use Rattle.mad_pager.proofs.DrawnLemmas.{line_shown, line_written}
use Rattle.mad_pager.proofs.status.draw_line.Goals as goal

pub returns-clause-writes : goal.returns-clause-writes
returns-clause-writes g c =
    let items = rw c.new-lines.ensures.items at c.in_ok-push.ensures.items in
    line_written _ c.args.skin.now c.args.line _ c.args.area.now _ _ items c.draw_text.ensures.writes

pub returns-clause-shown : goal.returns-clause-shown
returns-clause-shown g c =
    let items = rw c.new-lines.ensures.items at c.in_ok-push.ensures.items in
    line_shown _ c.args.skin.now c.args.line _ c.args.area.now _ _ _ items c.requires.one c.draw_text.ensures.writes c.draw_text.ensures.shown

pub returns-in_err-push-clause-writes : goal.returns-in_err-push-clause-writes
returns-in_err-push-clause-writes g c = memory_first _ _ _ c.from_residual.ensures.1
