use Rattle.std.proofs.Common.{◌∙◌}
use Rattle.mad_hits.proofs.PaneLemmas.{panes_shown, panes_written}
use Rattle.mad_hits.proofs.panes.draw_page_rows.Goals as goal

pub returns-clause-writes : goal.returns-clause-writes
returns-clause-writes g c =
    panes_written _ c.args.skin.now c.args.bar c.args.lines.now c.args.fronts.now c.args.top c.args.room c.args.width c.args.height c.from_line.result.now c.from_front.result.now c.from.result (g.O.Out.seen c.args.out.now) (g.O.Out.seen c.draw_rows_beside.new.out)
    c.from_line.ensures c.from_front.ensures (c.from.ensures ∙ c.left_columns.ensures) c.draw_rows_beside.ensures.writes

pub returns-clause-shown : goal.returns-clause-shown
returns-clause-shown g c =
    panes_shown _ c.args.skin.now c.args.bar c.args.lines.now c.args.fronts.now c.args.top c.args.room c.args.width c.args.height c.from_line.result.now c.from_front.result.now c.from.result (g.O.Out.seen c.args.out.now) (g.O.Out.seen c.draw_rows_beside.new.out) _
    c.from_line.ensures c.from_front.ensures (c.from.ensures ∙ c.left_columns.ensures) c.draw_rows_beside.ensures.writes c.draw_rows_beside.ensures.shown
