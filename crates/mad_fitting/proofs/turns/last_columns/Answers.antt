use Rattle.std.proofs.Common.{◌-◌, ◌/◌, length, arith, refl}
use Rattle.mad_fitting.proofs.OrderLemmas.{none_wider, wider_half}
use Rattle.mad_fitting.proofs.turns.last_columns.Goals as goal

pub loop-low-init : goal.loop-low-init
loop-low-init c = record {
  order = omega arith;
  enough = c.requires.enough;
  few = omega (arith, none_wider c.args.excess c.most_columns-high.result (length c.args.gains.now) 0 c.args.gains.now c.most_columns-high.ensures (omega arith), c.requires.some);
}

pub loop-low-preserved : goal.loop-low-preserved
loop-low-preserved c = record {
  order = omega arith;
  enough = c.loop-low.invariant.enough;
  few = wider_half c.args.excess (c.loop-low.high - (c.loop-low.high - c.loop-low.low) / 2) (c.loop-low.high - (c.loop-low.high - c.loop-low.low) / 2 - 1) (length c.args.gains.now) c.args.gains.now refl (omega arith) refl (omega (arith, c.left_for-left.ensures, c.if-left-eq0.false));
}
