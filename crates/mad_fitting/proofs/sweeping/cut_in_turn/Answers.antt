use Rattle.std.proofs.Common.{ap, length, arith, subst}
use Rattle.std.proofs.lemmas.List.{drop_all}
use Rattle.mad_fitting.proofs.GainLemmas.{one_parts, one_parts_of, order_of, parts_are}
use Rattle.mad_fitting.proofs.PassLemmas.{Sweeping, next_fits, next_follow, sweeping_end, sweeping_next, sweeping_pass, sweeping_start}
use Rattle.mad_fitting.proofs.sweeping.cut_in_turn.Goals as goal

pub loop-compound-init : goal.loop-compound-init
loop-compound-init c = sweeping_start c.args.kind c.args.compounds.now c.args.turns.now _ c.new.ensures.items c.excess.ensures c.requires.gains

pub pass-requires-clause-parts : goal.pass-requires-clause-parts
pass-requires-clause-parts c = order_of c.args.kind _ c.in_ok-parts.parts.items c.deref.result.now c.deref.ensures.value c.in_ok-parts.ensures.parts c.in_ok-parts.ensures.utf8

pub pass-requires-clause-gains : goal.pass-requires-clause-gains
pass-requires-clause-gains c = next_follow c.args.kind c.args.compounds.now c.args.turns.now c.loop-compound.number c.loop-compound.sweep _ _ c.deref.result.now (one_parts_of c.args.kind _ c.in_ok-parts.parts.items c.deref.result.now c.deref.ensures.value c.in_ok-parts.ensures.parts) (sweeping_next c.args.kind c.args.compounds.now c.args.turns.now c.loop-compound.number c.loop-compound.compound-index c.loop-compound.sweep _ c.loop-compound-test.true c.loop-compound.invariant)

pub loop-compound-preserved : goal.loop-compound-preserved
loop-compound-preserved c =
    sweeping_pass c.args.kind c.args.compounds.now c.args.turns.now c.loop-compound.number _ c.loop-compound.sweep c.pass.new.self _ _ c.deref.result.now (one_parts_of c.args.kind _ c.in_ok-parts.parts.items c.deref.result.now c.deref.ensures.value c.in_ok-parts.ensures.parts) (parts_are c.args.kind _ c.in_ok-parts.parts.items c.deref.result.now c.deref.ensures.value c.in_ok-parts.ensures.parts) (omega (arith, ap length c.deref.ensures.value)) (sweeping_next c.args.kind c.args.compounds.now c.args.turns.now c.loop-compound.number c.loop-compound.compound-index c.loop-compound.sweep _ c.loop-compound-test.true c.loop-compound.invariant) c.in_ok-pass.ensures

pub overflow_add-number : goal.overflow_add-number
overflow_add-number c = omega (arith, next_fits c.args.kind c.args.compounds.now c.args.turns.now c.loop-compound.number c.loop-compound.sweep _ _ c.in_ok-parts.parts.items (λ own h. one_parts c.args.kind _ c.in_ok-parts.parts.items own c.in_ok-parts.ensures.parts h) (sweeping_next c.args.kind c.args.compounds.now c.args.turns.now c.loop-compound.number c.loop-compound.compound-index c.loop-compound.sweep _ c.loop-compound-test.true c.loop-compound.invariant), c.args.turns.now.gains.small, c.args.turns.now.gains.ok)

pub returns : goal.returns
returns c = sweeping_end c.args.kind c.args.compounds.now c.args.turns.now c.loop-compound.number c.loop-compound.sweep c.requires.turns.some c.requires.turns (subst (Sweeping c.args.kind c.args.compounds.now c.args.turns.now c.loop-compound.number c.loop-compound.sweep) (drop_all _ _ c.loop-compound-test.false) c.loop-compound.invariant)
