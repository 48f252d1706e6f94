use Rattle.std.proofs.Common.{List, map, subst, sym}
use Rattle.std.specs.Vec.Iter.{into_iter_items}
use Rattle.mad_sections.specs.Sections.{section_content}
use Rattle.mad_sections.specs.declared.sections.Section.{Section}
use Rattle.mad_pages.proofs.BesideLemmas.{ItemsAdded, item_added, no_item_added}
use Rattle.mad_pages.proofs.paged.PagedPage.push_items.Goals as goal

pub loop-item-init : goal.loop-item-init
loop-item-init g c =
    subst (λ (items : List Section). ItemsAdded (g.S.LineSkin.rules c.args.skin.now) c.args.ascii c.args.width (map section_content c.args.items.items) (map section_content items) c.args.self.now c.args.self.now)
    (sym c.into_iter-item-iterator.ensures.into_iter_gives.0) (no_item_added (g.S.LineSkin.rules c.args.skin.now) c.args.ascii c.args.width (map section_content c.args.items.items) c.args.self.now)

pub loop-item-preserved : goal.loop-item-preserved
loop-item-preserved g c =
    let steps = c.in-Some.ensures.steps in
    item_added (g.S.LineSkin.rules c.args.skin.now) c.args.ascii c.args.width (map section_content c.args.items.items) (map section_content (into_iter_items c.next.new.self)) (section_content c.in-Some.item) c.args.self.now c.loop-item.self c.push_shown.new.self
    (rw steps.0 at c.loop-item.invariant) c.in_ok-push_shown.ensures.added c.in_ok-push_shown.ensures.starts
