use Rattle.mad_hits.proofs.RowStandLemmas.{drawn_hits_stand}
use Rattle.mad_hits.proofs.laws.drawn_hits_stand.Goals as goal

pub returns : goal.returns
returns c = drawn_hits_stand
