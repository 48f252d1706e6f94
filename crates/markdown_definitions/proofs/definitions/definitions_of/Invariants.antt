use Rattle.std.proofs.Common.{◌≡◌, map, length}
use Rattle.markdown_leaves.specs.Parts.{part_of}
use Rattle.markdown_lines.specs.LinksOf.{defined_of}
use Rattle.markdown_definitions.specs.Definitions.{parts_defined, nothing_defined}
use Rattle.markdown_definitions.proofs.definitions.definitions_of.Given as goal

abbrev pub invariant-loop-rest : goal.invariant-loop-rest
invariant-loop-rest l = parts_defined (defined_of l.definitions) (map part_of l.rest) ≡ parts_defined nothing_defined (map part_of l.parts)

abbrev pub decreases-loop-rest : goal.decreases-loop-rest
decreases-loop-rest l = length l.rest
