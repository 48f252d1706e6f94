use Rattle.std.proofs.Common.{subst, arith}
use Rattle.std.proofs.lemmas.List.{drop_all}
use Rattle.mad_fitting.proofs.ShorteningLemmas.{DropsFront, drop_start, drop_more, drop_ends, next_dropped}
use Rattle.mad_fitting.proofs.shortening.without_front.Goals as goal

pub loop-compound-init : goal.loop-compound-init
loop-compound-init c = rw c.new-kept.ensures.items (drop_start c.args.least c.args.compounds.now)

pub loop-compound-preserved : goal.loop-compound-preserved
loop-compound-preserved c =
    let held = next_dropped _ _ _ _ _ _ c.loop-compound-test.true c.loop-compound.invariant in
    let own = c.shortest_front-front.ensures in
    drop_more _ _ _ _ _ _ _ _ c.shortest_front-front.result held own.front own.enough own.shortest (omega (arith, c.saturating_sub-left.ensures)) c.in_ok-push_part.ensures

pub returns : goal.returns
returns c =
    let none = drop_all _ _ c.loop-compound-test.false in
    drop_ends _ c.loop-compound.left _ _ (subst (λ l. DropsFront c.args.least c.loop-compound.left c.args.compounds.now l c.loop-compound.kept.items) none c.loop-compound.invariant)
