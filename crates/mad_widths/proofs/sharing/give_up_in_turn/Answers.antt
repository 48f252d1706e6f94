use Rattle.std.proofs.Common.{ap, ◌∙◌}
use Rattle.mad_widths.specs.ColumnWidths.{narrowed}
use Rattle.mad_widths.proofs.sharing.give_up_in_turn.Goals as goal

pub returns-clause-widths : goal.returns-clause-widths
returns-clause-widths c = λ order h e. c.give_up.ensures ∙ ap (narrowed c.args.widths.now) (c.grant-left.ensures.granted order h e)
