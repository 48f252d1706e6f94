use Rattle.std.proofs.Common.{◌≡◌, ◌++◌, length, map}
use Rattle.std.specs.Vec.Iter.{into_iter_items}
use Rattle.mad_md.specs.Lines.{content_of}
use Rattle.mad_sections.specs.Sections.{page_content, section_content}
use Rattle.mad_outline.specs.LinkLists.{items_by}
use Rattle.mad_outline.specs.Sources.{header_said}
use Rattle.mad_outline.proofs.contents.header_items.Given as goal

abbrev pub invariant-loop-section : goal.invariant-loop-section
invariant-loop-section l =
    map content_of l.lines.items ++ items_by (header_said l.chosen) (length l.lines.items) (map section_content (into_iter_items l.section-iterator)) ≡ items_by (header_said l.chosen) 0 (page_content l.fn.page)
