use Rattle.std.proofs.Common.{◌≡◌, ◌++◌, drop, map}
use Rattle.mad_sections.specs.Sections.{section_content}
use Rattle.mad_outline.specs.Sources.{header_numbers}
use Rattle.mad_outline.proofs.numbers.numbers_of.Given as goal

abbrev pub invariant-loop-number : goal.invariant-loop-number
invariant-loop-number l = l.numbers.items ++ header_numbers l.number (map section_content (drop l.number l.sections)) ≡ header_numbers 0 (map section_content l.sections)
