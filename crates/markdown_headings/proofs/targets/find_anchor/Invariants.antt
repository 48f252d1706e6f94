use Rattle.std.proofs.Common.{◌≡◌, length, map}
use Rattle.markdown_reader.specs.Anchors.{anchor_said}
use Rattle.markdown_headings.specs.Targets.{anchor_among}
use Rattle.markdown_headings.proofs.targets.find_anchor.Given as goal

-- the first among those that are left is the first of all
abbrev pub invariant-loop-rest : goal.invariant-loop-rest
invariant-loop-rest l = anchor_among (map anchor_said l.rest) l.target ≡ anchor_among (map anchor_said l.anchors) l.target

abbrev pub decreases-loop-rest : goal.decreases-loop-rest
decreases-loop-rest l = length l.rest
