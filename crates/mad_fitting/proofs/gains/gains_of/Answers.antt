use Rattle.mad_fitting.proofs.GainLemmas.{gathers_end, gathers_next, gathers_start, order_of, small_start}
use Rattle.mad_fitting.proofs.gains.gains_of.Goals as goal

pub loop-compound-init : goal.loop-compound-init
loop-compound-init c = record { gathers = gathers_start c.args.kind c.args.compounds.now _ c.new-gains.ensures.items; small = small_start _ c.new-gains.ensures.items }

pub push_gains-requires : goal.push_gains-requires
push_gains-requires c = order_of c.args.kind _ c.in_ok-parts.parts.items c.deref.result.now c.deref.ensures.value c.in_ok-parts.ensures.parts c.in_ok-parts.ensures.utf8

pub loop-compound-preserved : goal.loop-compound-preserved
loop-compound-preserved c = record {
  gathers = gathers_next c.args.kind c.args.compounds.now c.loop-compound.gains.items c.push_gains.new.gains.items c.loop-compound.compound-index _ c.in_ok-parts.parts.items c.deref.result.now c.loop-compound-test.true c.deref.ensures.value c.in_ok-parts.ensures.parts c.in_ok-push_gains.ensures.gains c.loop-compound.invariant.gathers;
  small = c.in_ok-push_gains.ensures.small c.loop-compound.invariant.small;
}

pub returns-clause-gains : goal.returns-clause-gains
returns-clause-gains c = gathers_end c.args.kind c.args.compounds.now c.loop-compound.gains.items c.loop-compound.compound-index c.loop-compound-test.false c.loop-compound.invariant.gathers
