use Rattle.mad_links.proofs.BesideLemmas.{links_beside}
use Rattle.mad_links.proofs.laws.links_are_beside.Goals as goal

pub returns : goal.returns
returns c = links_beside
