use Rattle.mad_hits.proofs.RowStandLemmas.{hits_change_no_character}
use Rattle.mad_hits.proofs.laws.hits_change_no_character.Goals as goal

pub returns : goal.returns
returns c = hits_change_no_character
