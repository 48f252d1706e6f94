use Rattle.mad_pager.proofs.SearchLemmas.{up_brings_the_last}
use Rattle.mad_pager.proofs.laws.up_brings_the_last.Goals as goal

pub returns : goal.returns
returns c = up_brings_the_last
