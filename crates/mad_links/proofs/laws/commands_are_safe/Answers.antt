use Rattle.mad_links.proofs.AddressLemmas.{commands_are_safe}
use Rattle.mad_links.proofs.laws.commands_are_safe.Goals as goal

pub returns : goal.returns
returns c = commands_are_safe
