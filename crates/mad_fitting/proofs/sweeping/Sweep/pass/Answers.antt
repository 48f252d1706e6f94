use Rattle.std.proofs.Common.{rules, refl, arith}
use Rattle.mad_fitting.proofs.PassLemmas.{moved_fits, next_part_of, number_fits, passing_cut, passing_end, passing_next, passing_start, rest_within}
use Rattle.mad_fitting.proofs.sweeping.Sweep.pass.Goals as goal

pub loop-index-init : goal.loop-index-init
loop-index-init c = passing_start c.args.compound c.args.parts.now c.args.turns.now c.args.number c.args.self.now c.requires.parts c.requires.gains

pub overflow_sub-from : goal.overflow_sub-from
overflow_sub-from c = omega (arith, rest_within _ _ _ _ _ _ _ _ _ c.loop-index.invariant)

pub overflow_add-turn : goal.overflow_add-turn
overflow_add-turn c = omega (arith, number_fits _ _ _ _ _ _ _ _ _ _ (passing_next c.args.compound c.args.parts.now c.args.turns.now c.args.number c.loop-index.index c.args.self.now c.loop-index.rest c.loop-index.self (record { compound = 0; start = 0; end = 0; columns = 0 }) c.loop-index-test.true c.loop-index.invariant), c.args.turns.now.gains.small, c.args.turns.now.gains.ok)

pub moved-requires-clause-start : goal.moved-requires-clause-start
moved-requires-clause-start c = (moved_fits _ _ _ _ _ _ _ _ _ _ _ (passing_next c.args.compound c.args.parts.now c.args.turns.now c.args.number c.loop-index.index c.args.self.now c.loop-index.rest c.loop-index.self _ c.loop-index-test.true c.loop-index.invariant) refl).0

pub moved-requires-clause-end : goal.moved-requires-clause-end
moved-requires-clause-end c = (moved_fits _ _ _ _ _ _ _ _ _ _ _ (passing_next c.args.compound c.args.parts.now c.args.turns.now c.args.number c.loop-index.index c.args.self.now c.loop-index.rest c.loop-index.self _ c.loop-index-test.true c.loop-index.invariant) refl).1

pub cut-requires : goal.cut-requires
cut-requires c = next_part_of _ _ _ _ _ _ _ _ _ _ _ _ (passing_next c.args.compound c.args.parts.now c.args.turns.now c.args.number c.loop-index.index c.args.self.now c.loop-index.rest c.loop-index.self _ c.loop-index-test.true c.loop-index.invariant) refl c.moved.ensures

pub loop-index-preserved : goal.loop-index-preserved
loop-index-preserved c =
    passing_cut c.args.compound c.args.parts.now c.args.turns.now c.args.number c.loop-index.index _ c.amount-amount.result c.args.self.now c.loop-index.rest c.in_ok-rest.rest c.loop-index.self c.cut.new.self _ c.moved.result _ c.loop-index-test.true (search rules) c.requires.turns (passing_next c.args.compound c.args.parts.now c.args.turns.now c.args.number c.loop-index.index c.args.self.now c.loop-index.rest c.loop-index.self _ c.loop-index-test.true c.loop-index.invariant) refl c.moved.ensures c.amount-amount.ensures c.in_ok-rest.ensures

pub returns : goal.returns
returns c = passing_end c.args.compound c.args.parts.now c.args.turns.now c.args.number c.loop-index.index c.args.self.now c.loop-index.rest c.loop-index.self _ c.loop-index-test.false c.loop-index.invariant c.in_ok-push.ensures.items refl
