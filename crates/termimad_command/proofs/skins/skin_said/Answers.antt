use Rattle.termimad_command.proofs.skins.skin_said.Goals as goal

pub returns-in-Err : goal.returns-in-Err
returns-in-Err c = c.skin_refusal.ensures c.in-Err.ensures
