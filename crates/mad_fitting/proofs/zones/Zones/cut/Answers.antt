use Rattle.std.proofs.Common.{◌+◌, sym, ◌∙◌, arith, subst, refl}
use Rattle.std.specs.Str.{IsCharBoundary}
use Rattle.mad_md.specs.declared.compound.Compound.{Compound}
use Rattle.mad_fitting.specs.Cuts.{IsPart}
use Rattle.mad_fitting.proofs.CutLemmas.{own_at, part_own, centered_in, number_within, is_inside}
use Rattle.mad_fitting.proofs.ZoneLemmas.{zone_at, cut_zones, numbers_fit}
use Rattle.mad_fitting.proofs.zones.Zones.cut.Goals as goal
use Rattle.mad_fitting.proofs.zones.Zones.cut.Goals.{After-index-run}

-- the run is a part of the compounds
part : (c : After-index-run) → IsPart c.args.compounds.now.items c.index-run.result.now
part c = zone_at c.args.compounds.now.items c.args.self.now.runs.items c.args.number c.index-run.result.now c.requires.zones c.requires.number c.index-run.ensures

pub index-compound-requires : goal.index-compound-requires
index-compound-requires c =
    let h = part ((goal.at.index-compound-requires c).After-index-run) in
    omega (arith, number_within c.args.compounds.now.items h.front h.back h.own c.index-run.result.now.compound h.parts (sym h.of.number_is))

pub range-requires-clause-start_le_end : goal.range-requires-clause-start_le_end
range-requires-clause-start_le_end c = (part ((goal.at.range-requires-clause-start_le_end c).After-index-run)).of.order

pub range-requires-clause-start_boundary : goal.range-requires-clause-start_boundary
range-requires-clause-start_boundary c =
    let h = part ((goal.at.range-requires-clause-start_boundary c).After-index-run) in
    let same = part_own c.args.compounds.now.items c.index-run.result.now c.index-compound.result.now h c.index-compound.ensures in
    λ _. subst (λ (q : Compound). IsCharBoundary q.src.now c.index-run.result.now.start) (sym same) h.of.first

pub range-requires-clause-end_boundary : goal.range-requires-clause-end_boundary
range-requires-clause-end_boundary c =
    let h = part ((goal.at.range-requires-clause-end_boundary c).After-index-run) in
    let same = part_own c.args.compounds.now.items c.index-run.result.now c.index-compound.result.now h c.index-compound.ensures in
    subst (λ (q : Compound). IsCharBoundary q.src.now c.index-run.result.now.end) (sym same) h.of.last

pub returns-then-cut-lt2-clause-cut : goal.returns-then-cut-lt2-clause-cut
returns-then-cut-lt2-clause-cut c =
    let h = part ((goal.at.returns-then-cut-lt2-clause-cut c).After-index-run) in
    record {
      run = c.index-run.result.now;
      is = c.index-run.ensures;
      cuts = record {
        within = h;
        cut = c.centered_cut-cut.result;
        centered = centered_in _ _ c.index-compound.result.now h _ _ _ c.index-compound.ensures c.range.ensures.value c.centered_cut-cut.ensures.cut;
        most = c.centered_cut-cut.ensures.most;
        gain_is = omega (arith, c.if-cut-lt2.true);
        none = λ z. refl;
        some = λ l. absurd (omega (arith, l));
      };
    }

pub replaced-requires-clause-numbers : goal.replaced-requires-clause-numbers
replaced-requires-clause-numbers c = numbers_fit c.args.compounds.now.items c.args.self.now.runs.items c.requires.zones (omega (arith, c.args.compounds.now.small, c.args.compounds.now.ok))

pub replaced-requires-clause-number : goal.replaced-requires-clause-number
replaced-requires-clause-number c =
    let h = part ((goal.at.replaced-requires-clause-number c).After-index-run) in
    omega (arith, number_within c.args.compounds.now.items h.front h.back h.own c.index-run.result.now.compound h.parts (sym h.of.number_is), c.args.compounds.now.small, c.args.compounds.now.ok)

pub put_ellipsis-requires : goal.put_ellipsis-requires
put_ellipsis-requires c =
    let h = part ((goal.at.put_ellipsis-requires c).After-index-run) in
    is_inside c.args.compounds.now.items c.index-run.result.now c.centered_cut-cut.result c.args.excess h
    (centered_in _ _ c.index-compound.result.now h _ _ _ c.index-compound.ensures c.range.ensures.value c.centered_cut-cut.ensures.cut) (omega (arith, c.if-cut-lt2.false))

pub returns-clause-cut : goal.returns-clause-cut
returns-clause-cut c =
    let h = part ((goal.at.returns-clause-cut c).After-index-run) in
    record {
      run = c.index-run.result.now;
      is = c.index-run.ensures;
      cuts = record {
        within = h;
        cut = c.centered_cut-cut.result;
        centered = centered_in _ _ c.index-compound.result.now h _ _ _ c.index-compound.ensures c.range.ensures.value c.centered_cut-cut.ensures.cut;
        most = c.centered_cut-cut.ensures.most;
        gain_is = refl;
        none = λ z. absurd (omega (arith, z, c.if-cut-lt2.false));
        some = λ l. c.in_ok-put_ellipsis.ensures.cut;
      };
    }

pub returns-clause-zones : goal.returns-clause-zones
returns-clause-zones c =
    let h = c.in_ok-put_ellipsis.ensures.cut in
    let run = c.index-run.result.now in
    let same = c.index-compound.ensures ∙ own_at c.args.compounds.now.items h.inside.front h.inside.back h.inside.own c.index-compound.result.now run.compound h.inside.parts h.inside.number_is in
    cut_zones run.compound (run.start + c.centered_cut-cut.result.start) (run.start + c.centered_cut-cut.result.end) c.args.compounds.now.items _ c.index-compound.result.now c.around.result.0.src.now c.around.result.1.src.now c.args.self.now.runs.items _ h same
    c.around.ensures.head_text c.around.ensures.tail_text c.requires.zones c.in_ok-runs.ensures
