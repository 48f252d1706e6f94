use Rattle.termimad_run.proofs.AnswerLemmas.{answer_failed, answer_written}
use Rattle.termimad_run.proofs.answering.answer.Goals as goal

pub returns-in-Ok : goal.returns-in-Ok
returns-in-Ok g c = answer_written _ _ _ _ c.in-Ok.ensures

pub returns-in-Err : goal.returns-in-Err
returns-in-Err g c = answer_failed _ c.in-Err.failure _ _ _ _ _ c.in-Err.ensures c.refuse.ensures.status c.refuse.ensures.said
