use Rattle.std.proofs.Common.{◌≡◌, ◌++◌, map, length}
use Rattle.mad_md.specs.Flagged.{run_of}
use Rattle.mad_dressing.specs.PictureSigns.{pictured_runs}
use Rattle.mad_dressing.proofs.picture_signs.push_pictured.Given as goal

abbrev pub invariant-loop-rest : goal.invariant-loop-rest
invariant-loop-rest l = map run_of l.compounds.items ++ pictured_runs l.sign (map run_of l.rest) ≡ map run_of l.fn.compounds.items ++ pictured_runs l.sign (map run_of l.fn.text)

abbrev pub decreases-loop-rest : goal.decreases-loop-rest
decreases-loop-rest l = length l.rest
