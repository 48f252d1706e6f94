use Rattle.mad_links.proofs.AreaLemmas.{rows_asked, took_same, took_shown}
use Rattle.mad_links.proofs.areas.draw_linked_rows.Goals as goal

pub returns-clause-shown : goal.returns-clause-shown
returns-clause-shown g c = λ fill.
    took_shown (g.R.LinkedRows.pieces c.args.rows.now) (g.R.LinkedRows.addresses c.args.rows.now) c.args.area.now (g.O.Out.seen c.args.out.now) (g.O.Out.seen c.put_rows.new.out) c.in_ok-put_rows.ensures
    (rows_asked (g.R.LinkedRows.pieces c.args.rows.now) (g.R.LinkedRows.addresses c.args.rows.now) c.args.area.now c.requires fill c.know_rows.ensures.known c.know_rows.ensures.writable)

pub returns-clause-same : goal.returns-clause-same
returns-clause-same g c = λ fill.
    took_same (g.R.LinkedRows.pieces c.args.rows.now) (g.R.LinkedRows.addresses c.args.rows.now) c.args.area.now (g.O.Out.seen c.args.out.now) (g.O.Out.seen c.put_rows.new.out) c.in_ok-put_rows.ensures
    (rows_asked (g.R.LinkedRows.pieces c.args.rows.now) (g.R.LinkedRows.addresses c.args.rows.now) c.args.area.now c.requires fill c.know_rows.ensures.known c.know_rows.ensures.writable)
