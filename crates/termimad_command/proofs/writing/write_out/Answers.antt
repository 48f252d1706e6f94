use Rattle.termimad_command.proofs.WriteLemmas.{out_flushed, out_refused}
use Rattle.termimad_command.proofs.writing.write_out.Goals as goal

pub returns-in-Ok : goal.returns-in-Ok
returns-in-Ok g c = out_flushed _ _ _ _ c.flush.result c.in-Ok.ensures.writes c.flush.ensures

pub returns-in-Err : goal.returns-in-Err
returns-in-Err g c = out_refused _ _ _ c.in-Err.e _ c.refusal_of.ensures c.in-Err.ensures.writes
