use Rattle.std.proofs.Common.{◌≡◌, ◌++◌, map, length}
use Rattle.mad_md.specs.Lines.{styled_runs}
use Rattle.mad_dressing.specs.PictureSigns.{pictured_text}
use Rattle.mad_dressing.proofs.picture_signs.pictured_cells.Given as goal

abbrev pub invariant-loop-rest : goal.invariant-loop-rest
invariant-loop-rest l = map styled_runs l.shown.items ++ map (pictured_text l.sign) (map styled_runs l.rest) ≡ map (pictured_text l.sign) (map styled_runs l.fn.cells)

abbrev pub decreases-loop-rest : goal.decreases-loop-rest
decreases-loop-rest l = length l.rest
