use Rattle.regex.specs.Strings.{regex_pattern}
use Rattle.mad_pages.specs.Fronts.{front_content}
use Rattle.mad_hits.proofs.WrittenHits.{row_shown, row_unfound, row_written}
use Rattle.mad_hits.proofs.drawing.draw_row.Goals as goal

pub returns-clause-writes : goal.returns-clause-writes
returns-clause-writes g c =
    row_written _ c.args.skin.now c.args.style c.args.room (regex_pattern c.args.sought.now) c.args.lines.now c.args.fronts.now c.args.starts.now c.args.y c.args.row (front_content c.front_at-own.result) c.in_ok-hits.hits.items c.as_slice.result.now c.columns_before-front.result
    c.columns_left-rest.result c.line_skin.result (g.O.Out.seen c.args.out.now) (g.O.Out.seen c.draw_each.new.out) c.front_at-own.ensures c.line_skin.ensures (rw (c.from.ensures, c.columns.ensures) at c.columns_left-rest.ensures) c.columns_before-front.ensures c.as_slice.ensures.value
    (c.in_ok-hits.ensures c.requires.within) c.draw_each.ensures.writes

pub returns-clause-shown : goal.returns-clause-shown
returns-clause-shown g c =
    row_shown _ c.args.skin.now c.args.style c.args.room (regex_pattern c.args.sought.now) c.args.lines.now c.args.fronts.now c.args.starts.now c.args.y c.args.row (front_content c.front_at-own.result) c.in_ok-hits.hits.items c.as_slice.result.now c.columns_before-front.result
    c.columns_left-rest.result c.line_skin.result (g.O.Out.seen c.args.out.now) (g.O.Out.seen c.draw_each.new.out) c.front_at-own.ensures c.line_skin.ensures (rw (c.from.ensures, c.columns.ensures) at c.columns_left-rest.ensures) c.columns_before-front.ensures c.as_slice.ensures.value
    (c.in_ok-hits.ensures c.requires.within) c.draw_each.ensures.writes c.draw_each.ensures.shown

pub returns-in_err-hits-clause-writes : goal.returns-in_err-hits-clause-writes
returns-in_err-hits-clause-writes g c =
    row_unfound _ c.args.skin.now c.args.style c.args.room (regex_pattern c.args.sought.now) c.args.lines.now c.args.fronts.now c.args.starts.now c.args.y c.args.row (g.O.Out.seen c.args.out.now) c.from_residual.ensures.1
