use Rattle.std.proofs.Common.{◌≡◌, ◌++◌, map}
use Rattle.std.specs.Vec.Iter.{into_iter_items}
use Rattle.markdown_reader.specs.NumbersIn.{section_numbers}
use Rattle.markdown_reader.specs.SectionsSaid.{section_said}
use Rattle.markdown_reader.proofs.SteadyLemmas.{SteadiedSoFar}
use Rattle.markdown_reader.proofs.markdown.steadied.Given as goal

abbrev pub invariant-loop-section : goal.invariant-loop-section
invariant-loop-section l = record {
  steadied : SteadiedSoFar (map section_said l.fn.sections.items) (map section_said (into_iter_items l.section-iterator)) (map section_said l.made.items);
  numbers : map section_numbers l.made.items ++ map section_numbers (into_iter_items l.section-iterator) ≡ map section_numbers l.fn.sections.items;
}
