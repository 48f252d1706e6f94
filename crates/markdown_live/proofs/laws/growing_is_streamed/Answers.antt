use Rattle.markdown_live.proofs.LawLemmas.{growing_is_streamed}
use Rattle.markdown_live.proofs.laws.growing_is_streamed.Goals as goal

pub returns : goal.returns
returns c = growing_is_streamed
