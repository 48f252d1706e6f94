use Rattle.mad_draw.proofs.CropLemmas.{limits}
use Rattle.mad_draw.proofs.laws.limits_are_kept.Goals as goal

pub returns : goal.returns
returns c = limits
