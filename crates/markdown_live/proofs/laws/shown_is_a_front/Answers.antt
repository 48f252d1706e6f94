use Rattle.markdown_live.proofs.LawLemmas.{shown_is_a_front}
use Rattle.markdown_live.proofs.laws.shown_is_a_front.Goals as goal

pub returns : goal.returns
returns c = shown_is_a_front
