use Rattle.std.proofs.Common.{◌≡◌, map, length}
use Rattle.mad_md.specs.Lines.{styled_runs}
use Rattle.mad_dressing.specs.PictureSigns.{cells_say_picture}
use Rattle.mad_dressing.proofs.picture_signs.cells_say_picture.Given as goal

abbrev pub invariant-loop-rest : goal.invariant-loop-rest
invariant-loop-rest l = cells_say_picture (map styled_runs l.rest) ≡ cells_say_picture (map styled_runs l.fn.cells)

abbrev pub decreases-loop-rest : goal.decreases-loop-rest
decreases-loop-rest l = length l.rest
