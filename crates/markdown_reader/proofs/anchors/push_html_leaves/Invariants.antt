use Rattle.std.proofs.Common.{◌≡◌, ◌++◌, map, length}
use Rattle.markdown_html_text.proofs.LeafLemmas.{texts_of}
use Rattle.markdown_lines.specs.Links.{Defined}
use Rattle.markdown_reader.specs.Anchors.{anchor_said, parts_anchors}
use Rattle.markdown_reader.specs.Mapping.{html_parts, shown_parts}
use Rattle.markdown_reader.specs.MappingOf.{mapping_of}
use Rattle.markdown_reader.proofs.anchors.push_html_leaves.Given as goal

abbrev pub invariant-loop-rest : goal.invariant-loop-rest
invariant-loop-rest l = record {
  anchors : (defined : Defined) → map anchor_said l.anchors.items ++ parts_anchors defined (html_parts l.before (texts_of l.rest)) (mapping_of l.mapper)
      ≡ map anchor_said l.fn.anchors.items ++ parts_anchors defined (html_parts l.apart (texts_of l.leaves)) (mapping_of l.fn.mapper);
  mapping : (defined : Defined) → shown_parts defined (html_parts l.before (texts_of l.rest)) (mapping_of l.mapper) ≡ shown_parts defined (html_parts l.apart (texts_of l.leaves)) (mapping_of l.fn.mapper);
}

abbrev pub decreases-loop-rest : goal.decreases-loop-rest
decreases-loop-rest l = length l.rest
