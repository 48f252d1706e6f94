use Rattle.std.proofs.Common.{arith}
use Rattle.mad_hits.specs.Hits.{Marked}
use Rattle.mad_hits.proofs.WrittenHits.{hit_left_out, hit_shown, hit_written}
use Rattle.mad_hits.proofs.drawing.draw_chars.Goals as goal

pub returns-clause-writes : goal.returns-clause-writes
returns-clause-writes g c =
    let hit : Marked = record { column = c.args.column; chars = c.args.chars.now } in
    hit_written _ c.args.width c.args.y c.columns_of-columns.result c.saturating_add.result hit (g.O.Out.seen c.args.out.now) (g.O.Out.seen c.draw_rows.new.out) c.columns_of-columns.ensures c.saturating_add.ensures (omega (arith, c.if-saturating_add-from.false, c.from.ensures)) (omega arith)
    c.draw_rows.ensures.writes

pub returns-clause-shown : goal.returns-clause-shown
returns-clause-shown g c =
    let hit : Marked = record { column = c.args.column; chars = c.args.chars.now } in
    hit_shown _ c.args.width c.args.y c.columns_of-columns.result c.saturating_add.result hit (g.O.Out.seen c.args.out.now) (g.O.Out.seen c.draw_rows.new.out) c.columns_of-columns.ensures c.saturating_add.ensures (omega (arith, c.if-saturating_add-from.false, c.from.ensures)) (omega arith)
    c.draw_rows.ensures.writes c.draw_rows.ensures.shown

pub returns-then-saturating_add-from-clause-writes : goal.returns-then-saturating_add-from-clause-writes
returns-then-saturating_add-from-clause-writes g c =
    hit_left_out c.args.width c.args.y c.columns_of-columns.result c.saturating_add.result (record { column = c.args.column; chars = c.args.chars.now }) (g.O.Out.seen c.args.out.now) c.columns_of-columns.ensures c.saturating_add.ensures
    (omega (arith, c.if-saturating_add-from.true, c.from.ensures)) (omega arith)
