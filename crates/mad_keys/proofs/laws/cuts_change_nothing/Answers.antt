use Rattle.mad_keys.proofs.CutLemmas.{cut}
use Rattle.mad_keys.proofs.laws.cuts_change_nothing.Goals as goal

pub returns : goal.returns
returns c = cut
