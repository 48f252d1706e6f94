use Rattle.mad_links.proofs.AreaLemmas.{areas_show_the_same}
use Rattle.mad_links.proofs.laws.areas_show_the_same.Goals as goal

pub returns : goal.returns
returns c = areas_show_the_same
