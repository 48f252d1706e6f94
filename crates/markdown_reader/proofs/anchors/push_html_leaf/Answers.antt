use Rattle.std.proofs.Common.{length, map, string_bytes, sym, ap, ◌∙◌}
use Rattle.std.proofs.lemmas.List.{length-map}
use Rattle.markdown_reader.specs.Anchors.{anchor_said}
use Rattle.markdown_reader.specs.MappingOf.{mapping_of}
use Rattle.markdown_reader.specs.SectionsSaid.{section_said}
use Rattle.markdown_reader.proofs.AnchorLemmas.{html_named}
use Rattle.markdown_reader.proofs.anchors.push_html_leaf.Goals as goal

pub returns-clause-anchors : goal.returns-clause-anchors
returns-clause-anchors c = λ defined.
    html_named defined c.args.apart c.args.leaf.now c.as_str.result.now (map string_bytes c.in_ok-names.names.items) (length c.as_slice.result.now) (mapping_of c.args.mapper.now) (map anchor_said c.args.anchors.now.items) (map anchor_said c.push_names.new.anchors.items)
    (c.as_str.ensures.value ∙ c.in_ok-text.ensures) c.in_ok-names.ensures (ap length c.as_slice.ensures.value ∙ sym (length-map c.args.mapper.now.sections.items section_said)) c.in_ok-push_names.ensures
