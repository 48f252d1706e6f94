use Rattle.termimad_command.proofs.RunLemmas.{refusal_answered}
use Rattle.termimad_command.proofs.running.answer.Goals as goal

pub returns-in-Err : goal.returns-in-Err
returns-in-Err g c = refusal_answered _ c.in-Err.refusal _ _ _ c.in-Err.is c.refuse.ensures.status c.refuse.ensures.said
