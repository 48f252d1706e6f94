use Rattle.std.proofs.Common.{◌≡◌, ◌++◌, map, length}
use Rattle.std.specs.List.{flat_map}
use Rattle.markdown_leaves.specs.Parts.{part_of}
use Rattle.markdown_lines.specs.LinksOf.{defined_of}
use Rattle.markdown_reader.specs.Mapping.{leaves_in, shown_parts}
use Rattle.markdown_reader.specs.MappingOf.{mapping_of}
use Rattle.markdown_reader.specs.NumbersIn.{numbers_in}
use Rattle.markdown_reader.specs.SectionNumbers.{parts_numbers}
use Rattle.markdown_reader.proofs.mapper.Mapper.show_all.Given as goal

abbrev pub invariant-loop-rest : goal.invariant-loop-rest
invariant-loop-rest l = record {
  mapping : shown_parts (defined_of l.definitions) (flat_map leaves_in (map part_of l.rest)) (mapping_of l.self) ≡ shown_parts (defined_of l.definitions) (flat_map leaves_in (map part_of l.parts)) (mapping_of l.fn.self);
  numbers : numbers_in l.self ++ parts_numbers (defined_of l.definitions) (flat_map leaves_in (map part_of l.rest)) (mapping_of l.self)
      ≡ numbers_in l.fn.self ++ parts_numbers (defined_of l.definitions) (flat_map leaves_in (map part_of l.parts)) (mapping_of l.fn.self);
}

abbrev pub decreases-loop-rest : goal.decreases-loop-rest
decreases-loop-rest l = length l.rest
