use Rattle.std.proofs.Common.{◌≡◌, ◌++◌, ◌-◌, [], map}
use Rattle.std.specs.List.{flat_map, range_with_len}
use Rattle.mad_md.specs.Lines.{content_of}
use Rattle.mad_outline.specs.LinkLists.{section_listed}
use Rattle.mad_outline.specs.Sources.{links_between}
use Rattle.mad_outline.proofs.links.links_in_lines.Given as goal

-- what was put, and what is left, are the whole
abbrev pub invariant-loop-section : goal.invariant-loop-section
invariant-loop-section l =
    map content_of l.lines.items ++ flat_map (section_listed (links_between l.markdown [] l.from l.to)) (range_with_len l.section (l.to - l.section)) ≡ flat_map (section_listed (links_between l.markdown [] l.from l.to)) (range_with_len l.from (l.to - l.from))
