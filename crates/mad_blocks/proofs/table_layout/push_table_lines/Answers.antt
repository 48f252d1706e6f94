use Rattle.std.proofs.Common.{◌≡◌, [], arith, length}
use Rattle.std.specs.Vec.Iter.{into_iter_items}
use Rattle.std.proofs.lemmas.Grind.{common_steps}
use Rattle.mad_blocks.proofs.TableLemmas.{parts_start, parts_more, parts_all}
use Rattle.mad_blocks.proofs.table_layout.push_table_lines.Goals as goal

pub loop-line-init : goal.loop-line-init
loop-line-init g c = parts_start (g.S.LineSkin.rules c.args.skin.now) c.args.widths.now c.args.table.items c.args.lines.now.items c.in_ok-columns.columns.items (into_iter_items c.into_iter-rest.result) c.requires c.in_ok-columns.ensures c.into_iter-rest.ensures.rest

pub loop-line-preserved : goal.loop-line-preserved
loop-line-preserved g c =
    let own = c.in_ok-push_table_line.ensures in
    let left : c.len.result ≡ length (into_iter_items c.next.new.self) = omega (arith, c.len.ensures) in
    parts_more (g.S.LineSkin.rules c.args.skin.now) c.args.widths.now c.args.table.items c.args.lines.now.items c.loop-line.columns.items c.in_ok-columns-2.columns.items c.loop-line.first
    (into_iter_items c.loop-line.rest) (into_iter_items c.next.new.self) c.loop-line.lines.items own.0 c.push_table_line.new.lines.items c.in-Some.line c.deref.result.now c.position_at-position.result c.len.result
    c.loop-line.invariant c.in-Some.ensures.cases.0 c.in_ok-columns-2.ensures c.deref.ensures.value left c.position_at-position.ensures own.2 own.1

pub returns : goal.returns
returns g c =
    let none : into_iter_items c.loop-line.rest ≡ [] = grind (arith, common_steps) in
    parts_all (g.S.LineSkin.rules c.args.skin.now) c.args.widths.now c.args.table.items c.args.lines.now.items c.loop-line.columns.items c.loop-line.first (into_iter_items c.loop-line.rest) c.loop-line.lines.items none c.loop-line.invariant
