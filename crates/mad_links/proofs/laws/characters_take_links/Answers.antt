use Rattle.mad_links.proofs.TerminalLemmas.{writes_links}
use Rattle.mad_links.proofs.laws.characters_take_links.Goals as goal

pub returns : goal.returns
returns c = writes_links
