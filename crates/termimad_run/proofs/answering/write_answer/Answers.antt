use Rattle.std.proofs.Common.{◌∙◌, ap}
use Rattle.mad_term.specs.Trace.{flushed}
use Rattle.termimad_run.proofs.AnswerLemmas.{answer_refused, answer_unflushed}
use Rattle.termimad_run.proofs.answering.write_answer.Goals as goal

pub returns-in_err-put_text : goal.returns-in_err-put_text
returns-in_err-put_text g c = answer_refused _ _ _ _ _ c.from_residual.ensures.1 c.in_err-put_text.ensures.writes

pub returns-in_err-flush : goal.returns-in_err-flush
returns-in_err-flush g c = answer_unflushed _ _ _ _ _ c.from_residual-in_err-flush.ensures.1 c.in_ok-put_text.ensures.writes c.in_err-flush.ensures

pub returns : goal.returns
returns g c = c.in_ok-flush.ensures ∙ ap flushed c.in_ok-put_text.ensures.writes
