use Rattle.std.proofs.Common.{◌∙◌, inl, inr}
use Rattle.termimad_command.proofs.SayLemmas.{same_said}
use Rattle.termimad_command.proofs.refusals.say_no_skin.Goals as goal

pub returns-in-Ok : goal.returns-in-Ok
returns-in-Ok g c = inl (same_said _ _ _ _ (c.deref.ensures ∙ c.in-Ok.ensures) c.say.ensures)

pub returns-in-Err : goal.returns-in-Err
returns-in-Err g c = inr c.say-in-Err.ensures
