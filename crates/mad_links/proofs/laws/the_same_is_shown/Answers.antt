use Rattle.mad_links.proofs.PlainLemmas.{shows_the_same}
use Rattle.mad_links.proofs.laws.the_same_is_shown.Goals as goal

pub returns : goal.returns
returns c = shows_the_same
