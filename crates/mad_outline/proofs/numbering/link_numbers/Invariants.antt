use Rattle.std.proofs.Common.{◌≡◌, ◌++◌, ◌-◌, []}
use Rattle.std.specs.List.{flat_map, range_with_len}
use Rattle.mad_outline.specs.LinkNumbers.{section_numbers}
use Rattle.mad_outline.specs.Sources.{links_between}
use Rattle.mad_outline.proofs.numbering.link_numbers.Given as goal

-- what was put, and what is left, are the whole
abbrev pub invariant-loop-section : goal.invariant-loop-section
invariant-loop-section l =
    l.places.items ++ flat_map (section_numbers (links_between l.markdown [] l.from l.to) l.lines l.starts l.top l.height) (range_with_len l.section (l.to - l.section))
    ≡ flat_map (section_numbers (links_between l.markdown [] l.from l.to) l.lines l.starts l.top l.height) (range_with_len l.from (l.to - l.from))
