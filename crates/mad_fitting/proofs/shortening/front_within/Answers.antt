use Rattle.std.proofs.Common.{subst, arith}
use Rattle.std.proofs.lemmas.List.{drop_all}
use Rattle.std.proofs.lemmas.Str.{IsCharBoundary-start}
use Rattle.mad_fitting.proofs.ShorteningLemmas.{KeepsFront, front_start, front_more, front_stops, front_ends, next_kept}
use Rattle.mad_fitting.proofs.shortening.front_within.Goals as goal

pub loop-compound-init : goal.loop-compound-init
loop-compound-init c = rw c.new-kept.ensures.items (front_start c.args.most c.args.compounds.now)

pub push_part-requires-clause-start : goal.push_part-requires-clause-start
push_part-requires-clause-start c = IsCharBoundary-start _ c.longest_front-front.ensures.front.utf8

pub returns-then-front-compound : goal.returns-then-front-compound
returns-then-front-compound c =
    let held = next_kept _ _ _ _ _ _ c.loop-compound-test.true c.loop-compound.invariant in
    let own = c.longest_front-front.ensures in
    front_stops _ _ _ _ _ _ _ _ held own.front own.fits own.stops c.if-front-compound.true c.in_ok-push_part.ensures

pub loop-compound-preserved : goal.loop-compound-preserved
loop-compound-preserved c =
    let held = next_kept _ _ _ _ _ _ c.loop-compound-test.true c.loop-compound.invariant in
    let own = c.longest_front-front.ensures in
    front_more _ _ _ _ _ _ _ _ c.longest_front-front.result held own.front own.fits c.if-front-compound.false (omega (arith, own.fits)) c.in_ok-push_part.ensures

pub returns : goal.returns
returns c =
    let none = drop_all _ _ c.loop-compound-test.false in
    front_ends _ c.loop-compound.left _ _ (subst (λ l. KeepsFront c.args.most c.loop-compound.left c.args.compounds.now l c.loop-compound.kept.items) none c.loop-compound.invariant)
