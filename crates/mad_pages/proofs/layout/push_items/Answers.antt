use Rattle.std.proofs.Common.{map}
use Rattle.std.specs.Vec.Iter.{into_iter_items}
use Rattle.mad_sections.specs.Sections.{section_content}
use Rattle.mad_pages.specs.PageRows.{row_content}
use Rattle.mad_pages.proofs.PageLemmas.{item_more}
use Rattle.mad_pages.proofs.layout.push_items.Goals as goal

pub loop-item-preserved : goal.loop-item-preserved
loop-item-preserved g c =
    let laid = c.in_ok-push_folded.ensures in
    let steps = c.in-Some.ensures.steps in
    item_more (g.S.LineSkin.rules c.args.skin.now) c.args.ascii c.args.width (map section_content c.args.items.items) (map section_content (into_iter_items c.next.new.self)) (section_content c.in-Some.item)
    (map row_content c.args.rows.now.items) (map row_content c.loop-item.rows.items) (map row_content c.push_folded.new.rows.items) laid.0 (rw steps.0 at c.loop-item.invariant) laid.1 laid.2
