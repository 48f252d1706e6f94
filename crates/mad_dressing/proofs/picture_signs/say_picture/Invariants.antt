use Rattle.std.proofs.Common.{◌≡◌, map, length}
use Rattle.mad_md.specs.Flagged.{run_of}
use Rattle.mad_dressing.specs.PictureSigns.{say_picture}
use Rattle.mad_dressing.proofs.picture_signs.say_picture.Given as goal

abbrev pub invariant-loop-rest : goal.invariant-loop-rest
invariant-loop-rest l = say_picture (map run_of l.rest) ≡ say_picture (map run_of l.fn.compounds)

abbrev pub decreases-loop-rest : goal.decreases-loop-rest
decreases-loop-rest l = length l.rest
