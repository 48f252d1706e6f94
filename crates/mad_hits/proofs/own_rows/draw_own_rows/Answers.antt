use Rattle.std.proofs.Common.{◌+◌, [], arith, map, option_map, refl, take}
use Rattle.regex.specs.Strings.{regex_pattern}
use Rattle.mad_plain_page.specs.StyledRows.{row_chars}
use Rattle.mad_hits.specs.OwnRows.{AreRowsDrawn, IsRowDrawn}
use Rattle.mad_hits.proofs.OwnRowLemmas.{own_row_more}
use Rattle.mad_hits.proofs.TookLemmas.{took_in_turn, took_nothing}
use Rattle.mad_hits.proofs.own_rows.draw_own_rows.Goals as goal

pub loop-row-init : goal.loop-row-init
loop-row-init g c = record { at = refl; drawn = took_nothing (g.O.Out.seen c.args.out.now) (AreRowsDrawn c.args.style c.args.room (option_map (λ r. regex_pattern r.now) c.args.sought) 0 []) refl }

pub draw_own_row-requires : goal.draw_own_row-requires
draw_own_row-requires g c = omega (arith, c.requires, c.loop-row.invariant.at, c.loop-row-test.true)

pub loop-row-preserved : goal.loop-row-preserved
loop-row-preserved g c =
    let style = c.args.style in
    let room = c.args.room in
    let sought = option_map (λ r. regex_pattern r.now) c.args.sought in
    let rows = c.args.rows.now in
    let i = c.loop-row.row-index in
    record {
      at = omega (arith, c.loop-row.invariant.at);
      drawn =
          took_in_turn (g.O.Out.seen c.args.out.now) (g.O.Out.seen c.loop-row.out) (g.O.Out.seen c.draw_own_row.new.out) (AreRowsDrawn style room sought 0 (map row_chars (take i rows)))
          (IsRowDrawn style room sought c.loop-row.y c.as_slice.result.now) (AreRowsDrawn style room sought 0 (map row_chars (take (i + 1) rows)))
          (λ a b so here. own_row_more style room sought rows i c.loop-row.y c.row-item.result c.as_slice.result.now a b c.loop-row-test.true c.loop-row.invariant.at c.row-item.is c.as_slice.ensures.value so here) c.loop-row.invariant.drawn
          c.in_ok-draw_own_row.ensures;
    }
