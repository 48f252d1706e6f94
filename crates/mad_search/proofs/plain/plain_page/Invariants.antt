use Rattle.std.proofs.Common.{map}
use Rattle.std.specs.Vec.Iter.{into_iter_items}
use Rattle.mad_md.specs.Lines.{content_of, contents}
use Rattle.mad_sections.specs.Sections.{section_content}
use Rattle.mad_search.proofs.PlainLemmas.{PlainSoFar}
use Rattle.mad_search.proofs.plain.plain_page.Given as goal

abbrev pub invariant-loop-line : goal.invariant-loop-line
invariant-loop-line l = PlainSoFar (contents l.fn.text) (map content_of (into_iter_items l.line-iterator)) (map content_of l.part.items) (map section_content l.sections.items)
