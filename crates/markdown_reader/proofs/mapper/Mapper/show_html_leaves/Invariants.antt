use Rattle.std.proofs.Common.{◌≡◌, ◌++◌, length}
use Rattle.markdown_html_text.proofs.LeafLemmas.{texts_of}
use Rattle.markdown_lines.specs.Links.{Defined}
use Rattle.markdown_reader.specs.Mapping.{html_parts, shown_parts}
use Rattle.markdown_reader.specs.MappingOf.{mapping_of}
use Rattle.markdown_reader.specs.NumbersIn.{numbers_in}
use Rattle.markdown_reader.specs.SectionNumbers.{parts_numbers}
use Rattle.markdown_reader.proofs.mapper.Mapper.show_html_leaves.Given as goal

abbrev pub invariant-loop-rest : goal.invariant-loop-rest
invariant-loop-rest l = record {
  mapping : (defined : Defined) → shown_parts defined (html_parts l.before (texts_of l.rest)) (mapping_of l.self) ≡ shown_parts defined (html_parts l.apart (texts_of l.leaves)) (mapping_of l.fn.self);
  numbers : (defined : Defined) → numbers_in l.self ++ parts_numbers defined (html_parts l.before (texts_of l.rest)) (mapping_of l.self)
      ≡ numbers_in l.fn.self ++ parts_numbers defined (html_parts l.apart (texts_of l.leaves)) (mapping_of l.fn.self);
}

abbrev pub decreases-loop-rest : goal.decreases-loop-rest
decreases-loop-rest l = length l.rest
