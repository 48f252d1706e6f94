use Rattle.mad_draw.proofs.ProgressLemmas.{bars_are_short}
use Rattle.mad_draw.proofs.laws.bars_fit.Goals as goal

pub returns : goal.returns
returns c = bars_are_short
