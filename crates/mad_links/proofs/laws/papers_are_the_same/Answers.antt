use Rattle.mad_links.proofs.PaperLemmas.{papers_are_the_same}
use Rattle.mad_links.proofs.laws.papers_are_the_same.Goals as goal

pub returns : goal.returns
returns c = papers_are_the_same
