use Rattle.std.proofs.Common.{◌≡◌, ◌+◌, refl, rules, arith, subst}
use Rattle.std.proofs.lemmas.Result.{IfOk-weaker}
use Rattle.mad_fitting.specs.Shortening.{IsEndReplaced}
use Rattle.mad_fitting.specs.Thinning.{IsThinned}
use Rattle.mad_fitting.specs.Turns.{IsCutDown}
use Rattle.mad_fitting.proofs.CutLemmas.{thin_more}
use Rattle.mad_fitting.proofs.ThinLemmas.{cut_down}
use Rattle.mad_fitting.proofs.fitting.fit_inside.Goals as goal

pub returns-then-left-eq0-clause-inside : goal.returns-then-left-eq0-clause-inside
returns-then-left-eq0-clause-inside c =
    let same : c.in_ok-fitted.fitted.items ≡ c.args.compounds.now = search rules in
    record {
      cut = c.cut_parts-2.new.compounds.items;
      left = c.in_ok-left-2.left;
      thinned = thin_more c.args.excess c.in_ok-left.left c.in_ok-left-2.left c.args.compounds.now c.cut_parts.new.compounds.items c.cut_parts-2.new.compounds.items
          (subst (λ ps. IsThinned c.args.excess ps c.cut_parts.new.compounds.items c.in_ok-left.left) same c.in_ok-left.ensures.thinned) c.in_ok-left-2.ensures.thinned;
      done = λ z. refl;
      more = λ l. absurd (omega (arith, l, c.if-left-eq0.true));
    }

pub returns-then-left-eq0-clause-down : goal.returns-then-left-eq0-clause-down
returns-then-left-eq0-clause-down c =
    let same : c.in_ok-fitted.fitted.items ≡ c.args.compounds.now = search rules in
    subst (λ ps. IsCutDown c.args.excess ps c.cut_parts-2.new.compounds.items) same
    (cut_down c.args.excess c.in_ok-left.left c.in_ok-left-2.left c.in_ok-fitted.fitted.items c.cut_parts.new.compounds.items c.cut_parts-2.new.compounds.items c.cut_parts-2.new.compounds.items
    c.in_ok-left.ensures.thinned c.in_ok-left-2.ensures.thinned c.in_ok-left.ensures.turns c.in_ok-left-2.ensures.turns c.in_ok-left.ensures.left c.in_ok-left-2.ensures.left (λ z. refl) (λ l. absurd (omega (arith, l, c.if-left-eq0.true))))

pub returns-clause-inside : goal.returns-clause-inside
returns-clause-inside c =
    let same : c.in_ok-fitted.fitted.items ≡ c.args.compounds.now = search rules in
    IfOk-weaker c.fit_end.result _ _ (λ fitted h. record {
      cut = c.cut_parts-2.new.compounds.items;
      left = c.in_ok-left-2.left;
      thinned = thin_more c.args.excess c.in_ok-left.left c.in_ok-left-2.left c.args.compounds.now c.cut_parts.new.compounds.items c.cut_parts-2.new.compounds.items
          (subst (λ ps. IsThinned c.args.excess ps c.cut_parts.new.compounds.items c.in_ok-left.left) same c.in_ok-left.ensures.thinned) c.in_ok-left-2.ensures.thinned;
      done = λ z. absurd (c.if-left-eq0.false z);
      more = λ l. subst (λ ps. IsEndReplaced (c.in_ok-left-2.left + 1) ps fitted.items) c.deref.ensures.value h;
    }) c.fit_end.ensures

pub returns-clause-down : goal.returns-clause-down
returns-clause-down c =
    let same : c.in_ok-fitted.fitted.items ≡ c.args.compounds.now = search rules in
    IfOk-weaker c.fit_end.result _ _ (λ fitted h. subst (λ ps. IsCutDown c.args.excess ps fitted.items) same
    (cut_down c.args.excess c.in_ok-left.left c.in_ok-left-2.left c.in_ok-fitted.fitted.items c.cut_parts.new.compounds.items c.cut_parts-2.new.compounds.items fitted.items
    c.in_ok-left.ensures.thinned c.in_ok-left-2.ensures.thinned c.in_ok-left.ensures.turns c.in_ok-left-2.ensures.turns c.in_ok-left.ensures.left c.in_ok-left-2.ensures.left (λ z. absurd (c.if-left-eq0.false z))
    (λ _. subst (λ ps. IsEndReplaced (c.in_ok-left-2.left + 1) ps fitted.items) c.deref.ensures.value h))) c.fit_end.ensures
