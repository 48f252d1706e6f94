use Rattle.std.proofs.Common.{◌≡◌, drop, map}
use Rattle.markdown_leaves.specs.Parts.{part_of}
use Rattle.markdown_events.specs.Walks.{nothing_walked, parts_told, walking_of}
use Rattle.markdown_events.proofs.read.read_events.Given as goal

abbrev pub invariant-loop-part : goal.invariant-loop-part
invariant-loop-part l = parts_told (map part_of (drop l.part-index l.part-items)) (walking_of l.walk) ≡ parts_told (map part_of l.part-items) nothing_walked
