use Rattle.std.proofs.Common.{arith}
use Rattle.mad_fitting.proofs.OrderLemmas.{most_all, most_more}
use Rattle.mad_fitting.proofs.turns.most_columns.Goals as goal

pub loop-gain-init : goal.loop-gain-init
loop-gain-init c = λ w more all. all

pub loop-gain-preserved : goal.loop-gain-preserved
loop-gain-preserved c = most_more c.loop-gain.most c.greater-most.result c.loop-gain.gain-index c.args.gains.now (record { columns = 0; gained = 0 }) c.loop-gain-test.true (omega (arith, c.greater-most.ensures)) (omega (arith, c.greater-most.ensures)) c.loop-gain.invariant

pub returns : goal.returns
returns c = most_all c.loop-gain.most _ c.args.gains.now c.loop-gain-test.false c.loop-gain.invariant
