use Rattle.std.proofs.Common.{◌≡◌, ◌++◌, map, length}
use Rattle.mad_sections.specs.Sections.{section_content}
use Rattle.mad_dressing.specs.Dressed.{put_of, put_with}
use Rattle.mad_dressing.proofs.pages.dressings_of_sections.Given as goal

abbrev pub invariant-loop-rest : goal.invariant-loop-rest
invariant-loop-rest l = map put_of l.dressings.items ++ map (put_with l.marks) (map section_content l.rest) ≡ map (put_with l.marks) (map section_content l.fn.sections)

abbrev pub decreases-loop-rest : goal.decreases-loop-rest
decreases-loop-rest l = length l.rest
