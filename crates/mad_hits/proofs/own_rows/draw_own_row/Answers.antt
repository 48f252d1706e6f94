use Rattle.std.proofs.Common.{option_map}
use Rattle.regex.specs.Strings.{regex_pattern}
use Rattle.mad_hits.proofs.OwnRowLemmas.{row_drawn}
use Rattle.mad_hits.proofs.own_rows.draw_own_row.Goals as goal

pub returns : goal.returns
returns g c =
    row_drawn c.args.style c.args.room (option_map (λ r. regex_pattern r.now) c.args.sought) c.args.y c.args.row.now c.in_ok-hits.hits.items c.as_slice.result.now c.from-left.result (g.O.Out.seen c.args.out.now) (g.O.Out.seen c.draw_chars.new.out)
    (g.O.Out.seen c.draw_each.new.out) c.from-left.ensures c.as_slice.ensures.value c.in_ok-hits.ensures c.in_ok-draw_chars.ensures.writes c.in_ok-draw_chars.ensures.shown c.in_ok-draw_each.ensures.writes c.in_ok-draw_each.ensures.shown
