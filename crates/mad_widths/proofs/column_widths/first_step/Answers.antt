use Rattle.std.proofs.Common.{◌-◌, ◌∙◌}
use Rattle.mad_widths.proofs.ReduceLemmas.{first_gives, first_done}
use Rattle.mad_widths.proofs.column_widths.first_step.Goals as goal

pub give_up_in_turn-requires : goal.give_up_in_turn-requires
give_up_in_turn-requires c = first_gives c.args.columns.now (c.args.total - c.args.available) _ _ _ c.requires.naturals c.requires.turns (c.deref_mut.ensures.value ∙ c.in_ok-requests.ensures)

pub returns : goal.returns
returns c =
    first_done c.args.columns.now c.args.available c.args.total _ _ _ _ _ c.requires.naturals c.requires.turns c.requires.total c.requires.excess (c.deref_mut.ensures.value ∙ c.in_ok-requests.ensures) c.give_up_in_turn.ensures.left c.give_up_in_turn.ensures.widths
