use Rattle.mad_links.proofs.AddressLemmas.{numbers_are_links}
use Rattle.mad_links.proofs.laws.numbers_are_links.Goals as goal

pub returns : goal.returns
returns c = numbers_are_links
