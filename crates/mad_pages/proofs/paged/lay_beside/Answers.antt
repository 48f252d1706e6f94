use Rattle.std.proofs.Common.{◌++◌, ◌∷◌, [], List, ℕ, ap, map, refl, subst, sym, ◌∙◌}
use Rattle.std.specs.Vec.Iter.{into_iter_items}
use Rattle.mad_dressing.specs.Dressed.{sections_dressed}
use Rattle.mad_dressing.specs.declared.dressed_sections.Dressed.{Dressed}
use Rattle.mad_pages.proofs.BesideLemmas.{PagedSoFar, group_paged, nothing_paged}
use Rattle.mad_pages.proofs.paged.lay_beside.Goals as goal

pub loop-dressed-init : goal.loop-dressed-init
loop-dressed-init g c =
    let new = c.in_ok-paged.ensures in
    subst (λ (page : List Dressed). PagedSoFar (g.S.LineSkin.rules c.args.skin.now) c.args.ascii c.args.width (map sections_dressed c.args.page.items) (map sections_dressed page) c.in_ok-paged.paged)
    (sym c.into_iter-dressed-iterator.ensures.into_iter_gives.0)
    (nothing_paged (g.S.LineSkin.rules c.args.skin.now) c.args.ascii c.args.width (map sections_dressed c.args.page.items) c.in_ok-paged.paged new.lines new.fronts new.starts new.parts)

pub loop-dressed-preserved : goal.loop-dressed-preserved
loop-dressed-preserved g c =
    let steps = c.in-Some.ensures.steps in
    let mid = c.push_dressed.new.self in
    group_paged (g.S.LineSkin.rules c.args.skin.now) c.args.ascii c.args.width (map sections_dressed c.args.page.items) (map sections_dressed (into_iter_items c.next.new.self)) (sections_dressed c.in-Some.dressed) c.loop-dressed.paged mid
    (record { lines = mid.lines; fronts = mid.fronts; starts = c.push.new.self; parts = mid.parts }) (rw steps.0 at c.loop-dressed.invariant) c.in_ok-push_dressed.ensures.added c.in_ok-push_dressed.ensures.starts refl refl refl
    (c.in_ok-push.ensures.items ∙ ap (λ (n : ℕ). mid.starts.items ++ n ∷ []) c.count_of-count.ensures)
