use Rattle.std.proofs.Common.{arith}
use Rattle.mad_fitting.proofs.OrderLemmas.{some_number}
use Rattle.mad_fitting.proofs.turns.last_number.Goals as goal

pub loop-high-init : goal.loop-high-init
loop-high-init c = record {
  order = some_number c.args.excess c.args.columns c.args.gains.now c.requires.enough c.requires.few;
  within = omega arith;
  enough = c.requires.enough;
  few = c.requires.few;
}
