use Rattle.mad_term.proofs.Exits.{refused_exit}
use Rattle.mad_draw.proofs.AreaLemmas.{drawn_none, drawn_more, refused_row, shown_all}
use Rattle.mad_draw.proofs.rows_in_area.draw_rows.Goals as goal

pub loop-y-init : goal.loop-y-init
loop-y-init g c = drawn_none _ _ _

pub returns-in_err-draw_row-clause-writes : goal.returns-in_err-draw_row-clause-writes
returns-in_err-draw_row-clause-writes g c =
    refused_exit _ _ _ _ _ c.from_residual.ensures.1
    (refused_row (g.R.Rows.pieces c.args.rows.now) c.args.area.now c.loop-y.y c.in_err-draw_row.field-0.0 _ _ _ c.loop-y-test.true c.loop-y.invariant c.in_err-draw_row.ensures.writes)

pub loop-y-preserved : goal.loop-y-preserved
loop-y-preserved g c =
    drawn_more (g.R.Rows.pieces c.args.rows.now) c.args.area.now c.loop-y.y _ _ _ c.loop-y-test.true c.loop-y.invariant c.in_ok-draw_row.ensures.writes c.in_ok-draw_row.ensures.known

pub returns-clause-shown : goal.returns-clause-shown
returns-clause-shown g c = shown_all (g.R.Rows.pieces c.args.rows.now) c.args.area.now c.loop-y.y _ _ c.requires c.loop-y-test.false c.loop-y.invariant
