use Rattle.mad_links.proofs.LinkAreaLemmas.{links_drawn}
use Rattle.mad_links.proofs.laws.links_are_drawn.Goals as goal

pub returns : goal.returns
returns c = links_drawn
