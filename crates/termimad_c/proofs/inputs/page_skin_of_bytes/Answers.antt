use Rattle.termimad_c.proofs.Steps.{page_skin_read}
use Rattle.termimad_c.proofs.inputs.page_skin_of_bytes.Goals as goal

pub returns : goal.returns
returns c = page_skin_read _ _ _ _ _ c.in_ok-word.ensures.0 c.in_ok-word.ensures.1 c.given_word.ensures c.in_ok-skin.ensures
