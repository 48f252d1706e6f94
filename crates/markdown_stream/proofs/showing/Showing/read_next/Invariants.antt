use Rattle.std.proofs.Common.{◌≡◌, map, length}
use Rattle.markdown_leaves.specs.Parts.{part_of}
use Rattle.markdown_lines.specs.LinksOf.{defined_of}
use Rattle.markdown_reader.specs.MappingOf.{mapping_of}
use Rattle.markdown_stream.specs.Streamed.{parts_provided}
use Rattle.markdown_stream.specs.Streaming.{taken}
use Rattle.markdown_stream.proofs.showing.Showing.read_next.Given as goal

abbrev pub invariant-loop-rest : goal.invariant-loop-rest
invariant-loop-rest l =
    parts_provided (defined_of l.self.definitions) (map part_of l.rest) (mapping_of l.mapper)
    ≡ parts_provided (defined_of l.self.definitions) (map part_of l.parts) (taken (mapping_of l.self.mapper))

abbrev pub decreases-loop-rest : goal.decreases-loop-rest
decreases-loop-rest l = length l.rest
