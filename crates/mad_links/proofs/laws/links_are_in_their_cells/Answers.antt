use Rattle.mad_links.proofs.LinkRowLemmas.{links_are_in_their_cells}
use Rattle.mad_links.proofs.laws.links_are_in_their_cells.Goals as goal

pub returns : goal.returns
returns c = links_are_in_their_cells
