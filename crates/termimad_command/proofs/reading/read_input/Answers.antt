use Rattle.termimad_command.proofs.ReadLemmas.{input_fails}
use Rattle.termimad_command.proofs.reading.read_input.Goals as goal

pub returns-in-Err : goal.returns-in-Err
returns-in-Err g c = input_fails c.args.name c.in-Err.failure _ _ _ c.input_refusal.ensures c.in-Err.ensures
