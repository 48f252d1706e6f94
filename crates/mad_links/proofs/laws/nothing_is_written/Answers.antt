use Rattle.mad_links.proofs.LinkRowLemmas.{writes_nothing}
use Rattle.mad_links.proofs.laws.nothing_is_written.Goals as goal

pub returns : goal.returns
returns c = writes_nothing
