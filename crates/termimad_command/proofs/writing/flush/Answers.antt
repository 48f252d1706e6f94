use Rattle.mad_term.specs.declared.errors.Error.TheVariants.{IO}
use Rattle.termimad_command.proofs.writing.flush.Goals as goal

pub returns-in-Err : goal.returns-in-Err
returns-in-Err g c = ((IO c.in-Err.e, c.refusal_of.ensures), c.in-Err.ensures)
