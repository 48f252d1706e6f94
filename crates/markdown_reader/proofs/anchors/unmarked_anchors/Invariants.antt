use Rattle.std.proofs.Common.{◌≡◌, ◌++◌, map, length}
use Rattle.std.specs.List.{flat_map}
use Rattle.markdown_leaves.specs.Parts.{part_of}
use Rattle.markdown_leaves.specs.Told.{parts_of}
use Rattle.markdown_definitions.specs.Definitions.{definitions_of}
use Rattle.markdown_reader.specs.Anchors.{anchor_said, parts_anchors, unmarked_anchors}
use Rattle.markdown_reader.specs.Mapping.{leaves_in}
use Rattle.markdown_reader.specs.MappingOf.{mapping_of}
use Rattle.markdown_reader.proofs.anchors.unmarked_anchors.Given as goal

abbrev pub invariant-loop-rest : goal.invariant-loop-rest
invariant-loop-rest l = map anchor_said l.anchors.items ++ parts_anchors (definitions_of (parts_of l.source)) (flat_map leaves_in (map part_of l.rest)) (mapping_of l.mapper) ≡ unmarked_anchors l.source

abbrev pub decreases-loop-rest : goal.decreases-loop-rest
decreases-loop-rest l = length l.rest
