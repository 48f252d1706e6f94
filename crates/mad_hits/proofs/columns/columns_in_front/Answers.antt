use Rattle.mad_hits.proofs.FrontHitLemmas.{front_whole}
use Rattle.mad_hits.proofs.columns.columns_in_front.Goals as goal

pub returns : goal.returns
returns c = front_whole c.args.skin.now c.args.gutters.now c.loop-gutter.gutter-index c.loop-gutter.columns c.loop-gutter-test.false c.loop-gutter.invariant.fits c.loop-gutter.invariant.so_far
