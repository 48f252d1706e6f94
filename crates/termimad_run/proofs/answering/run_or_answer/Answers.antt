use Rattle.std.proofs.Common.{map, refl, string_bytes}
use Rattle.termimad_run.proofs.AnswerLemmas.{answer_done, none_done}
use Rattle.termimad_run.specs.Answering.{answer_to}
use Rattle.termimad_run.proofs.answering.run_or_answer.Goals as goal

pub returns-in-Some : goal.returns-in-Some
returns-in-Some g c = answer_done (answer_to (map string_bytes c.args.args.now)) _ c.in-Some.text _ _ _ _ c.answer_to.ensures c.in-Some.is c.answer.ensures refl

pub returns-in-None : goal.returns-in-None
returns-in-None g c = none_done (answer_to (map string_bytes c.args.args.now)) _ _ _ _ _ c.answer_to.ensures c.in-None.is c.run.ensures.run
