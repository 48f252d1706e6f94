use Rattle.std.proofs.Common.{◌≡◌, ◌++◌, drop, map, string_bytes}
use Rattle.markdown_headings.specs.HeadingsSaid.{heading_said}
use Rattle.termimad_c.specs.Outlines.{heading_lines}
use Rattle.termimad_c.proofs.outlines.lines_of_headings.Given as goal

-- the lines so far, and those of the headings that are left, are all
abbrev pub invariant-loop-heading : goal.invariant-loop-heading
invariant-loop-heading l = string_bytes l.lines ++ heading_lines (map heading_said (drop l.heading-index l.headings)) ≡ heading_lines (map heading_said l.headings)
