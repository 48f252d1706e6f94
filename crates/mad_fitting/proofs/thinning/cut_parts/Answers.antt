use Rattle.std.proofs.Common.{sym, ◌∙◌, arith, subst}
use Rattle.mad_fitting.specs.Parts.{AreGains}
use Rattle.mad_fitting.specs.Sweeps.{SweepsAll}
use Rattle.mad_fitting.proofs.ThinLemmas.{none_thins, none_turns, swept_left, swept_thins, swept_turns}
use Rattle.mad_fitting.proofs.thinning.cut_parts.Goals as goal

pub returns-then-excess-eq0-clause-thinned : goal.returns-then-excess-eq0-clause-thinned
returns-then-excess-eq0-clause-thinned c = none_thins c.args.excess c.args.compounds.now.items c.if-excess-eq0.true

pub returns-then-excess-eq0-clause-turns : goal.returns-then-excess-eq0-clause-turns
returns-then-excess-eq0-clause-turns c = none_turns c.args.kind c.args.excess c.args.compounds.now.items c.if-excess-eq0.true

pub cut_in_turn-requires-clause-gains : goal.cut_in_turn-requires-clause-gains
cut_in_turn-requires-clause-gains c = subst (λ ps. AreGains c.args.kind ps c.in_ok-turns.turns.gains.items) (c.deref.ensures.value ∙ sym c.deref-2.ensures.value) c.in_ok-turns.ensures.gains

pub returns-clause-thinned : goal.returns-clause-thinned
returns-clause-thinned c =
    swept_thins c.args.kind c.args.excess c.args.compounds.now.items c.in_ok-turns.turns c.in_ok-swept.swept (omega (arith, c.if-excess-eq0.false)) c.in_ok-turns.ensures.excess
    (subst (λ ps. SweepsAll c.args.kind ps c.in_ok-turns.turns c.in_ok-swept.swept) c.deref-2.ensures.value c.in_ok-swept.ensures)

pub returns-clause-turns : goal.returns-clause-turns
returns-clause-turns c =
    swept_turns c.args.kind c.args.excess c.args.compounds.now.items c.in_ok-turns.turns c.in_ok-swept.swept (omega (arith, c.if-excess-eq0.false)) c.in_ok-turns.ensures.excess
    (subst (λ ps. AreGains c.args.kind ps c.in_ok-turns.turns.gains.items) c.deref.ensures.value c.in_ok-turns.ensures.gains)
    (subst (λ ps. SweepsAll c.args.kind ps c.in_ok-turns.turns c.in_ok-swept.swept) c.deref-2.ensures.value c.in_ok-swept.ensures)

pub returns-clause-left : goal.returns-clause-left
returns-clause-left c =
    swept_left c.args.kind c.args.excess c.args.compounds.now.items c.in_ok-turns.turns c.in_ok-swept.swept c.in_ok-turns.ensures.excess
    (subst (λ ps. SweepsAll c.args.kind ps c.in_ok-turns.turns c.in_ok-swept.swept) c.deref-2.ensures.value c.in_ok-swept.ensures)
