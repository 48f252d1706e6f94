use Rattle.std.proofs.Common.{◌≡◌, ◌++◌, drop, map}
use Rattle.mad_sections.specs.Sections.{section_content}
use Rattle.markdown_headings.specs.Headings.{titles_from, titles_of}
use Rattle.markdown_headings.specs.HeadingsSaid.{title_said}
use Rattle.markdown_headings.proofs.titles.titles_among.Given as goal

-- those so far, and those of the sections that are left, are all
abbrev pub invariant-loop-number : goal.invariant-loop-number
invariant-loop-number l = map title_said l.titles.items ++ titles_from l.number (map section_content (drop l.number l.sections)) ≡ titles_of (map section_content l.sections)
