use Rattle.mad_widths.proofs.WorkedLemmas.{worked}
use Rattle.mad_widths.proofs.laws.worked_widths.Goals as goal

pub returns : goal.returns
returns c = worked
