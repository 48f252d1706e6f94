use Rattle.mad_links.proofs.TerminalLemmas.{drawings_are_woven}
use Rattle.mad_links.proofs.laws.drawings_are_woven.Goals as goal

pub returns : goal.returns
returns c = drawings_are_woven
