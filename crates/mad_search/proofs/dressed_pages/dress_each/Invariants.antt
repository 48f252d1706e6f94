use Rattle.std.proofs.Common.{◌≡◌, ◌++◌, map}
use Rattle.std.specs.Vec.Iter.{into_iter_items}
use Rattle.mad_sections.specs.Sections.{section_content}
use Rattle.mad_dressing.specs.Dressed.{put_of, sections_dressed}
use Rattle.mad_search.specs.PagedTexts.{grouped}
use Rattle.mad_search.proofs.dressed_pages.dress_each.Given as goal

abbrev pub invariant-loop-section : goal.invariant-loop-section
invariant-loop-section l = map sections_dressed l.dressed.items ++ grouped (map put_of l.rest) (map section_content (into_iter_items l.section-iterator)) ≡ grouped (map put_of l.fn.dressings) (map section_content l.fn.page.sections.items)
