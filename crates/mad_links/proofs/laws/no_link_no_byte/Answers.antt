use Rattle.mad_links.proofs.AreaLemmas.{no_link_no_byte}
use Rattle.mad_links.proofs.laws.no_link_no_byte.Goals as goal

pub returns : goal.returns
returns c = no_link_no_byte
