use Rattle.std.proofs.Common.{map, rules}
use Rattle.markdown_reader.specs.Anchors.{anchor_said}
use Rattle.termimad_c.proofs.ToldLemmas.{section_told}
use Rattle.termimad_c.proofs.outlines.section_named.Goals as goal

pub returns : goal.returns
returns c =
    section_told c.args.text.now c.in_ok-text.text.now c.args.name.now c.in_ok-name.name.now _ c.in_ok-found.found.items (map anchor_said c.in_ok-anchors.anchors.items) c.in_ok-section.section
    c.in_ok-text.ensures.0 c.in_ok-text.ensures.1 c.in_ok-name.ensures.0 c.in_ok-name.ensures.1
    c.in_ok-read.ensures.sections c.in_ok-found.ensures.headings c.in_ok-anchors.ensures (search rules)
