use Rattle.std.proofs.Common.{◌∙◌, arith}
use Rattle.mad_widths.proofs.WidthLemmas.{between}
use Rattle.mad_widths.proofs.ReduceLemmas.{second_taken, second_none}
use Rattle.mad_widths.proofs.column_widths.second_step.Goals as goal

pub returns-then-left-eq0 : goal.returns-then-left-eq0
returns-then-left-eq0 c = second_none c.args.columns.now _ _ _ _ c.requires.halfway c.requires.turns c.requires.wide_enough c.if-left-eq0.true

pub second_requests-requires : goal.second_requests-requires
second_requests-requires c = omega (arith, (between c.args.columns.now _ _ _ _ c.requires.halfway c.requires.turns c.requires.wide_enough).above)

pub give_up_in_turn-requires : goal.give_up_in_turn-requires
give_up_in_turn-requires c = (second_taken c.args.columns.now _ _ _ _ _ c.requires.halfway c.requires.turns c.requires.wide_enough (c.deref_mut.ensures.value ∙ c.in_ok-requests.ensures)).0

pub returns : goal.returns
returns c = (second_taken c.args.columns.now _ _ _ _ _ c.requires.halfway c.requires.turns c.requires.wide_enough (c.deref_mut.ensures.value ∙ c.in_ok-requests.ensures)).1 _ c.give_up_in_turn.ensures.widths
