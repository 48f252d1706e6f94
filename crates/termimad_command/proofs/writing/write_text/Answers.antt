use Rattle.termimad_command.proofs.writing.write_text.Goals as goal

pub returns-in-Err : goal.returns-in-Err
returns-in-Err g c = (c.in-Err.e, c.refusal_of.ensures, c.in-Err.ensures)
