use Rattle.std.proofs.Common.{arith}
use Rattle.std.proofs.lemmas.Grind.{common_steps}
use Rattle.mad_blocks.proofs.laying.widest.Goals as goal

pub loop-composite-preserved : goal.loop-composite-preserved
loop-composite-preserved c = grind (arith, common_steps)
