use Rattle.std.proofs.Common.{◌≡◌, ◌++◌, map}
use Rattle.std.specs.Vec.Iter.{into_iter_items}
use Rattle.mad_sections.specs.Sections.{section_content}
use Rattle.mad_dressing.specs.Dressed.{dressed_by_each, put_of}
use Rattle.mad_dressing.proofs.pages.dress_page.Given as goal

abbrev pub invariant-loop-section : goal.invariant-loop-section
invariant-loop-section l = map section_content l.sections.items ++ dressed_by_each (map put_of l.rest) (map section_content (into_iter_items l.section-iterator)) ≡ dressed_by_each (map put_of l.fn.dressings) (map section_content l.fn.page.sections.items)
