use Rattle.mad_links.proofs.LinkRowLemmas.{rows_are_woven}
use Rattle.mad_links.proofs.laws.rows_are_woven.Goals as goal

pub returns : goal.returns
returns c = rows_are_woven
