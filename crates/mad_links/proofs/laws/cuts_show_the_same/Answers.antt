use Rattle.mad_links.proofs.AreaLemmas.{cuts_show_the_same}
use Rattle.mad_links.proofs.laws.cuts_show_the_same.Goals as goal

pub returns : goal.returns
returns c = cuts_show_the_same
