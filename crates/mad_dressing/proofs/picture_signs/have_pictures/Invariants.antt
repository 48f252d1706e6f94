use Rattle.std.proofs.Common.{◌≡◌, map, length}
use Rattle.mad_md.specs.Lines.{content_of}
use Rattle.mad_dressing.specs.PictureSigns.{have_pictures}
use Rattle.mad_dressing.proofs.picture_signs.have_pictures.Given as goal

abbrev pub invariant-loop-rest : goal.invariant-loop-rest
invariant-loop-rest l = have_pictures (map content_of l.rest) ≡ have_pictures (map content_of l.fn.lines)

abbrev pub decreases-loop-rest : goal.decreases-loop-rest
decreases-loop-rest l = length l.rest
