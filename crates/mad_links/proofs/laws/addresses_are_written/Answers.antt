use Rattle.mad_links.proofs.AddressLemmas.{addresses_are_written}
use Rattle.mad_links.proofs.laws.addresses_are_written.Goals as goal

pub returns : goal.returns
returns c = addresses_are_written
