use Rattle.std.proofs.Common.{refl, arith}
use Rattle.mad_fitting.proofs.OrderLemmas.{left_all, left_more}
use Rattle.mad_fitting.proofs.turns.left_for.Goals as goal

pub loop-number-init : goal.loop-number-init
loop-number-init c = refl

pub loop-number-preserved : goal.loop-number-preserved
loop-number-preserved c =
    left_more c.args.excess c.args.columns c.args.least c.loop-number.number c.loop-number.left c.saturating_sub-left.result _ c.args.gains.now (record { columns = 0; gained = 0 }) c.loop-number-test.true c.loop-number.invariant
    (omega (arith, c.saturating_sub-left.ensures, c.counted.ensures))

pub returns : goal.returns
returns c = left_all _ _ _ c.loop-number.number _ _ c.args.gains.now c.loop-number-test.false c.loop-number.invariant
