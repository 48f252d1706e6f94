use Rattle.std.proofs.Common.{◌+◌, ◌++◌, ◌∙◌, ap, subst}
use Rattle.mad_md.specs.Flagged.{Run}
use Rattle.mad_fitting.specs.Zones.{AreZonesOf, before_of, behind_of}
use Rattle.mad_fitting.proofs.ZoneLemmas.{five_parts}
use Rattle.mad_fitting.proofs.zones.replaced.Goals as goal

pub returns : goal.returns
returns c =
    let (oh, zh, ph) = c.in_ok-push_runs.ensures in
    let (om, zm, pm) = c.in_ok-push_runs-2.ensures in
    let (ot, zt, pt) = c.in_ok-push_runs-3.ensures in
    record {
      of_head = oh;
      of_mark = om;
      of_tail = ot;
      head_zones = zh;
      mark_zones = subst (λ t. AreZonesOf (c.args.number + 1) t om) (ap (λ (r : Run). r.text) c.ellipsis.ensures) zm;
      tail_zones = zt;
      parts = five_parts (before_of c.args.number c.args.all.now.items) (behind_of c.args.number c.args.all.now.items) oh om ot _ _ _ _ _ _ c.new-runs.ensures.items
          (c.in_ok-push_before.ensures ∙ ap (λ l. c.new-runs.result.items ++ before_of c.args.number l) c.deref.ensures.value) ph pm pt
          (c.in_ok-push_behind.ensures ∙ ap (λ l. c.push_runs-3.new.runs.items ++ behind_of c.args.number l) c.deref-2.ensures.value);
    }
