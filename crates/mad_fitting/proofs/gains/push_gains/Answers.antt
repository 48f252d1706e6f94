use Rattle.std.proofs.Common.{refl, sym, ap, ◌∙◌, ◌++◌, map}
use Rattle.std.proofs.lemmas.List.{append-nil, drop_all}
use Rattle.mad_fitting.specs.Parts.{gain_of}
use Rattle.mad_fitting.proofs.GainLemmas.{gaining_more, gaining_next}
use Rattle.mad_fitting.proofs.gains.push_gains.Goals as goal

pub loop-part-init : goal.loop-part-init
loop-part-init c = record { from = 0; order = c.requires; gains = refl; small = λ all. all }

pub gain_of-requires : goal.gain_of-requires
gain_of-requires c = (gaining_next c.args.compound.src.now c.args.parts.now c.args.gains.now.items c.loop-part.gains.items c.loop-part.part-index _ c.loop-part-test.true c.loop-part.invariant).order.0

pub loop-part-preserved : goal.loop-part-preserved
loop-part-preserved c =
    gaining_more c.args.compound.src.now c.args.parts.now c.args.gains.now.items c.loop-part.gains.items _ _ _ c.gain_of.result c.gain_of.ensures.value c.gain_of.ensures.small c.in_ok-push.ensures.items
    (gaining_next c.args.compound.src.now c.args.parts.now c.args.gains.now.items c.loop-part.gains.items c.loop-part.part-index _ c.loop-part-test.true c.loop-part.invariant)

pub returns-clause-gains : goal.returns-clause-gains
returns-clause-gains c =
    sym (append-nil c.loop-part.gains.items) ∙ ap (λ l. c.loop-part.gains.items ++ map (gain_of c.args.compound.src.now) l) (sym (drop_all c.loop-part.part-index c.args.parts.now c.loop-part-test.false)) ∙ c.loop-part.invariant.gains

pub returns-clause-small : goal.returns-clause-small
returns-clause-small c = c.loop-part.invariant.small
