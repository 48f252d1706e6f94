use Rattle.mad_links.proofs.TerminalLemmas.{texts_are_woven}
use Rattle.mad_links.proofs.laws.texts_are_woven.Goals as goal

pub returns : goal.returns
returns c = texts_are_woven
