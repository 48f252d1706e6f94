use Rattle.mad_layout.proofs.KindLemmas.{several_kinds_keep_premises}
use Rattle.mad_layout.proofs.laws.several_kinds_keep_premises.Goals as goal

pub returns : goal.returns
returns c = several_kinds_keep_premises
