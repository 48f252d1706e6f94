use Rattle.mad_links.proofs.TerminalLemmas.{erases_links}
use Rattle.mad_links.proofs.laws.erasures_take_links_off.Goals as goal

pub returns : goal.returns
returns c = erases_links
