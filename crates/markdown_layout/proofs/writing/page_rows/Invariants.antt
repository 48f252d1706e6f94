use Rattle.std.proofs.Common.{[], map, string_bytes}
use Rattle.std.specs.Vec.Iter.{into_iter_items}
use Rattle.mad_sections.specs.Sections.{section_content}
use Rattle.markdown_layout.proofs.WrittenLemmas.{WrittenSoFar}
use Rattle.markdown_layout.proofs.writing.page_rows.Given as goal

abbrev pub invariant-loop-section : goal.invariant-loop-section
invariant-loop-section l = WrittenSoFar l.skin l.width (map section_content l.fn.page.sections.items) (map section_content (into_iter_items l.section-iterator)) [] (string_bytes l.rows)
