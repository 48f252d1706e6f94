use Rattle.markdown_emphasis.proofs.SettleLemmas.{matches_exhaust}
use Rattle.markdown_emphasis.proofs.laws.nothing_is_left.Goals as goal

pub returns : goal.returns
returns c = matches_exhaust
