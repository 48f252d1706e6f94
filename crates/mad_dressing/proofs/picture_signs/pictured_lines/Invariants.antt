use Rattle.std.proofs.Common.{◌≡◌, ◌++◌, map, length}
use Rattle.mad_md.specs.Lines.{content_of}
use Rattle.mad_dressing.specs.PictureSigns.{pictured_line}
use Rattle.mad_dressing.proofs.picture_signs.pictured_lines.Given as goal

abbrev pub invariant-loop-rest : goal.invariant-loop-rest
invariant-loop-rest l = map content_of l.shown.items ++ map (pictured_line l.sign) (map content_of l.rest) ≡ map (pictured_line l.sign) (map content_of l.fn.lines)

abbrev pub decreases-loop-rest : goal.decreases-loop-rest
decreases-loop-rest l = length l.rest
