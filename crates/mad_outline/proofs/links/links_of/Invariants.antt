use Rattle.std.proofs.Common.{◌≡◌, ◌++◌, length, map}
use Rattle.markdown_reader.specs.MarkdownSays.{link_said}
use Rattle.mad_outline.specs.LinkLists.{section_links}
use Rattle.mad_outline.proofs.links.links_of.Given as goal

-- what was put, and what is left, are the whole
abbrev pub invariant-left : goal.invariant-left
invariant-left l = map (λ k. link_said k.now) l.own.items ++ section_links l.section (map link_said l.left) ≡ section_links l.section (map link_said l.links)

abbrev pub decreases-left : goal.decreases-left
decreases-left l = length l.left
