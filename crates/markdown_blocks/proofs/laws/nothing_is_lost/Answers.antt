use Rattle.markdown_blocks.proofs.KeptLemmas.{nothing_lost}
use Rattle.markdown_blocks.proofs.laws.nothing_is_lost.Goals as goal

pub returns : goal.returns
returns c = nothing_lost
