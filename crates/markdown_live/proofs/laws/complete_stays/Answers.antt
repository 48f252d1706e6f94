use Rattle.markdown_live.proofs.LawLemmas.{complete_stays}
use Rattle.markdown_live.proofs.laws.complete_stays.Goals as goal

pub returns : goal.returns
returns c = complete_stays
