use Rattle.mad_links.proofs.AreaLemmas.{links_in_areas}
use Rattle.mad_links.proofs.laws.links_are_in_areas.Goals as goal

pub returns : goal.returns
returns c = links_in_areas
