use Rattle.std.proofs.Common.{◌≡◌, ◌++◌, drop, map, string_bytes}
use Rattle.markdown_reader.specs.MarkdownSays.{link_said}
use Rattle.termimad_c.specs.Outlines.{link_lines}
use Rattle.termimad_c.proofs.outlines.lines_of_links.Given as goal

-- the lines so far, and those of the links that are left, are all
abbrev pub invariant-loop-link : goal.invariant-loop-link
invariant-loop-link l = string_bytes l.lines ++ link_lines (map link_said (drop l.link-index l.links)) ≡ link_lines (map link_said l.links)
