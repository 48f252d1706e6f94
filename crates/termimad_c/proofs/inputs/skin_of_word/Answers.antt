use Rattle.termimad_c.proofs.Steps.{skin_read}
use Rattle.termimad_c.proofs.inputs.skin_of_word.Goals as goal

pub returns : goal.returns
returns c = skin_read _ _ _ _ _ c.in_ok-word.ensures.0 c.in_ok-word.ensures.1 c.given_word.ensures c.in_ok-skin.ensures
