use Rattle.std.proofs.Common.{◌≡◌, ◌+◌, ◌-◌, drop, length, map}
use Rattle.markdown_reader.specs.SectionsSaid.{link_said}
use Rattle.markdown_linked_pages.specs.LinkedPages.{links_before}
use Rattle.markdown_linked_pages.proofs.link_marks.links_before.Given as goal

abbrev pub invariant-loop-count : goal.invariant-loop-count
invariant-loop-count l = l.count + links_before l.section (map link_said (drop l.count l.links)) ≡ l.passed + links_before l.section (map link_said (drop l.passed l.links))

abbrev pub decreases-loop-count : goal.decreases-loop-count
decreases-loop-count l = length l.links - l.count
