use Rattle.std.proofs.Common.{◌≤◌, get_or, subst, arith, sym, ◌∙◌, map}
use Rattle.std.proofs.lemmas.List.{at_drop_all}
use Rattle.mad_widths.specs.Turns.{turn_of}
use Rattle.mad_widths.proofs.Granted.{granted, left_after, granted-le}
use Rattle.mad_widths.proofs.GrantLemmas.{grants_are, left_over}
use Rattle.mad_widths.proofs.sharing.grant.Goals as goal

pub returns-clause-granted : goal.returns-clause-granted
returns-clause-granted c = λ widths h e.
    sym (at_drop_all (λ l. granted c.loop-column.requests c.loop-column.left (map turn_of l)) c.args.turns.now c.loop-column.column-index (omega arith))
    ∙ c.loop-column.invariant.requests ∙ grants_are widths c.args.requests.now c.args.excess (map turn_of c.args.turns.now) h e

pub returns-clause-left : goal.returns-clause-left
returns-clause-left c = λ widths h e.
    sym (at_drop_all (λ l. left_after c.loop-column.requests c.loop-column.left (map turn_of l)) c.args.turns.now c.loop-column.column-index (omega arith))
    ∙ c.loop-column.invariant.left ∙ left_over widths c.args.requests.now c.args.excess (map turn_of c.args.turns.now) h e

pub returns-clause-lowered : goal.returns-clause-lowered
returns-clause-lowered c = λ k.
    subst (λ l. get_or l k 0 ≤ get_or c.args.requests.now k 0)
    (sym (sym (at_drop_all (λ l. granted c.loop-column.requests c.loop-column.left (map turn_of l)) c.args.turns.now c.loop-column.column-index (omega arith)) ∙ c.loop-column.invariant.requests))
    (granted-le c.args.requests.now c.args.excess (map turn_of c.args.turns.now) k)
