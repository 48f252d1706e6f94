use Rattle.std.proofs.Common.{◌+◌, [], Ok, map, refl, subst, take}
use Rattle.mad_hits.specs.Drawn.{AreHitsShown, IsHitShown}
use Rattle.mad_hits.specs.Hits.{marked_of}
use Rattle.mad_hits.specs.declared.hits.Hit.{Hit}
use Rattle.mad_hits.proofs.TookLemmas.{took_in_turn, took_nothing}
use Rattle.mad_hits.specs.FrontHits.{hit_behind}
use Rattle.mad_hits.proofs.FrontHitLemmas.{hit_more}
use Rattle.mad_hits.proofs.WrittenHits.{none_written, one_refused, one_written}
use Rattle.mad_hits.proofs.drawing.draw_each.Goals as goal

pub loop-hit-init : goal.loop-hit-init
loop-hit-init g c = record { writes = λ r new h. h; shown = took_nothing (g.O.Out.seen c.args.out.now) (AreHitsShown c.args.width c.args.y []) refl }

pub loop-hit-preserved : goal.loop-hit-preserved
loop-hit-preserved g c =
    let hits = c.args.hits.now in
    let i = c.loop-hit.hit-index in
    record {
      writes = λ r new h. c.loop-hit.invariant.writes r new (one_written r c.args.style c.args.front c.args.width c.args.y hits i c.hit-item.result _ _ new c.loop-hit-test.true c.hit-item.is c.in_ok-draw_hit.ensures.writes h);
      shown =
          took_in_turn (g.O.Out.seen c.args.out.now) (g.O.Out.seen c.loop-hit.out) (g.O.Out.seen c.draw_hit.new.out) (AreHitsShown c.args.width c.args.y (map (hit_behind c.args.style c.args.front) (map marked_of (take i hits))))
          (IsHitShown c.args.width c.args.y (hit_behind c.args.style c.args.front (marked_of c.hit-item.result))) (AreHitsShown c.args.width c.args.y (map (hit_behind c.args.style c.args.front) (map marked_of (take (i + 1) hits))))
          (λ a b so here.
          hit_more c.args.style c.args.width c.args.y c.args.front hits i c.hit-item.result a b c.loop-hit-test.true so (subst (λ (h : Hit). IsHitShown c.args.width c.args.y (hit_behind c.args.style c.args.front (marked_of h)) b) c.hit-item.is here))
          c.loop-hit.invariant.shown c.in_ok-draw_hit.ensures.shown;
    }

pub returns-in_err-draw_hit-clause-writes : goal.returns-in_err-draw_hit-clause-writes
returns-in_err-draw_hit-clause-writes g c =
    c.loop-hit.invariant.writes _ _
    (one_refused _ c.in_err-draw_hit.field-0.0 c.args.style c.args.front c.args.width c.args.y c.args.hits.now c.loop-hit.hit-index c.hit-item.result _ _ c.loop-hit-test.true c.hit-item.is c.from_residual.ensures.1 c.in_err-draw_hit.ensures.writes)

pub returns-clause-writes : goal.returns-clause-writes
returns-clause-writes g c =
    c.loop-hit.invariant.writes (Ok tt) (g.O.Out.seen c.loop-hit.out) (none_written (tt {0}) c.args.style c.args.front c.args.width c.args.y c.args.hits.now c.loop-hit.hit-index (g.O.Out.seen c.loop-hit.out) c.loop-hit-test.false)
