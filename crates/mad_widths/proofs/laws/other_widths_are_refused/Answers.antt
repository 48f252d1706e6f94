use Rattle.mad_widths.proofs.WorkedLemmas.{none}
use Rattle.mad_widths.proofs.laws.other_widths_are_refused.Goals as goal

pub returns : goal.returns
returns c = none
