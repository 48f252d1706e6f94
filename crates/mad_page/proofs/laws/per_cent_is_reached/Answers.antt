use Rattle.mad_page.proofs.PageLemmas.{reaches_percent}
use Rattle.mad_page.proofs.laws.per_cent_is_reached.Goals as goal

pub returns : goal.returns
returns c = reaches_percent
