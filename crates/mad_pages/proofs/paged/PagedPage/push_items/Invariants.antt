use Rattle.std.proofs.Common.{map}
use Rattle.std.specs.Vec.Iter.{into_iter_items}
use Rattle.mad_sections.specs.Sections.{section_content}
use Rattle.mad_pages.proofs.BesideLemmas.{ItemsAdded}
use Rattle.mad_pages.proofs.paged.PagedPage.push_items.Given as goal

abbrev pub invariant-loop-item : goal.invariant-loop-item
invariant-loop-item g l = ItemsAdded (g.S.LineSkin.rules l.skin) l.ascii l.width (map section_content l.fn.items.items) (map section_content (into_iter_items l.item-iterator)) l.fn.self l.self
