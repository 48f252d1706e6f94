use Rattle.mad_links.proofs.AreaLemmas.{composites_show_the_same}
use Rattle.mad_links.proofs.laws.composites_show_the_same.Goals as goal

pub returns : goal.returns
returns c = composites_show_the_same
