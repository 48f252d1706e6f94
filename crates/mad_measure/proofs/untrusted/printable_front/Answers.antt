use Rattle.std.proofs.Common.{sym, ◌∙◌}
use Rattle.mad_measure.proofs.PrintableLemmas.{front_more, front_stops, front_all}
use Rattle.mad_measure.proofs.untrusted.printable_front.Goals as goal

pub returns-then-not-is_printable_char-clause-front :
    goal.returns-then-not-is_printable_char-clause-front
returns-then-not-is_printable_char-clause-front c =
    let steps = c.in-Some.ensures.steps in
    front_stops _ _ _ _ _ c.in-Some.c _ c.loop-start.invariant steps.0 steps.1 (sym c.is_printable_char.ensures ∙ c.if-not-is_printable_char.true)

pub loop-start-preserved : goal.loop-start-preserved
loop-start-preserved c =
    let steps = c.in-Some.ensures.steps in
    front_more _ _ _ _ _ c.in-Some.c _ c.loop-start.invariant steps.1 steps.2 (sym c.is_printable_char.ensures ∙ c.if-not-is_printable_char.false)

pub returns-clause-front : goal.returns-clause-front
returns-clause-front c = front_all _ _ _ _ c.loop-start.invariant c.in-None.ensures.steps.0
