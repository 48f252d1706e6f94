use Rattle.mad_links.proofs.AreaLemmas.{composites_say_the_same}
use Rattle.mad_links.proofs.laws.composites_say_the_same.Goals as goal

pub returns : goal.returns
returns c = composites_say_the_same
