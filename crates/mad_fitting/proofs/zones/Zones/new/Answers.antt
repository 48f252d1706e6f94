use Rattle.std.proofs.Common.{subst, sym}
use Rattle.std.proofs.lemmas.List.{drop_all}
use Rattle.mad_fitting.proofs.ZoneLemmas.{ZonesBefore, zones_start, zones_more, zones_end}
use Rattle.mad_fitting.proofs.OneZones.{one_zones}
use Rattle.mad_fitting.proofs.zones.Zones.new.Goals as goal

pub loop-number-init : goal.loop-number-init
loop-number-init c = subst (ZonesBefore 0 c.args.compounds.now c.args.compounds.now) (sym c.new-runs.ensures.items) (zones_start c.args.compounds.now)

pub loop-number-preserved : goal.loop-number-preserved
loop-number-preserved c =
    let (own, zones, added) = c.in_ok-push_runs.ensures in
    zones_more _ _ _ _ own _ c.loop-number-test.true c.loop-number.invariant zones added

pub returns-clause-zones : goal.returns-clause-zones
returns-clause-zones c = zones_end c.loop-number.number c.args.compounds.now c.loop-number.runs.items (subst (λ l. ZonesBefore c.loop-number.number c.args.compounds.now l c.loop-number.runs.items) (drop_all _ _ c.loop-number-test.false) c.loop-number.invariant)

pub returns-clause-only : goal.returns-clause-only
returns-clause-only c =
    let zones = zones_end c.loop-number.number c.args.compounds.now c.loop-number.runs.items (subst (λ l. ZonesBefore c.loop-number.number c.args.compounds.now l c.loop-number.runs.items) (drop_all _ _ c.loop-number-test.false) c.loop-number.invariant) in
    λ others h. one_zones 0 c.args.compounds.now others c.loop-number.runs.items h zones
