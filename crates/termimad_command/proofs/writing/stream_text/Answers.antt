use Rattle.std.proofs.Common.{refl}
use Rattle.termimad_command.proofs.writing.stream_text.Goals as goal

pub returns-in-Err : goal.returns-in-Err
returns-in-Err g c = (c.in-Err.e, c.args.name, refl, c.stream_refusal.ensures, c.in-Err.ensures)
