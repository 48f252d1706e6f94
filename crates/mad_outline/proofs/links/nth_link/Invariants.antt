use Rattle.std.proofs.Common.{◌≡◌, ◌-◌, drop, length, map}
use Rattle.markdown_reader.specs.MarkdownSays.{link_said}
use Rattle.mad_outline.specs.LinkLists.{nth_from}
use Rattle.mad_outline.proofs.links.nth_link.Given as goal

-- what is found in what is left is what is found in all
abbrev pub invariant-loop-index : goal.invariant-loop-index
invariant-loop-index l = nth_from l.from l.to l.left l.index (map link_said (drop l.index l.links)) ≡ nth_from l.from l.to l.number 0 (map link_said l.links)

abbrev pub decreases-loop-index : goal.decreases-loop-index
decreases-loop-index l = length l.links - l.index
