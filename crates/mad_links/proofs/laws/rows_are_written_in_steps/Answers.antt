use Rattle.mad_links.proofs.LinkRowLemmas.{rows_in_steps}
use Rattle.mad_links.proofs.laws.rows_are_written_in_steps.Goals as goal

pub returns : goal.returns
returns c = rows_in_steps
