use Rattle.std.proofs.Common.{map, length}
use Rattle.std.specs.List.{AllByRecursion}
use Rattle.mad_sections.specs.Sections.{section_content}
use Rattle.markdown_layout.specs.KeptPremises.{IsTypedSection}
use Rattle.markdown_layout.proofs.typed_pages.typed_sections.Given as goal

abbrev pub invariant-loop-rest : goal.invariant-loop-rest
invariant-loop-rest l = AllByRecursion IsTypedSection (map section_content l.rest) → AllByRecursion IsTypedSection (map section_content l.sections)

abbrev pub decreases-loop-rest : goal.decreases-loop-rest
decreases-loop-rest l = length l.rest
