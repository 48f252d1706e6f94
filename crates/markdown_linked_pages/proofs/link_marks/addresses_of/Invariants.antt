use Rattle.std.proofs.Common.{◌≡◌, map, take}
use Rattle.markdown_reader.specs.SectionsSaid.{link_said}
use Rattle.markdown_linked_pages.specs.LinkedPages.{addresses_of}
use Rattle.markdown_linked_pages.proofs.link_marks.addresses_of.Given as goal

abbrev pub invariant-loop-link : goal.invariant-loop-link
invariant-loop-link l = l.made.items ≡ addresses_of (map link_said (take l.link-index l.links))
