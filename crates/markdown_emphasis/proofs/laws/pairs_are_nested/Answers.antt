use Rattle.markdown_emphasis.proofs.PairLemmas.{matches_nested}
use Rattle.markdown_emphasis.proofs.laws.pairs_are_nested.Goals as goal

pub returns : goal.returns
returns c = matches_nested
