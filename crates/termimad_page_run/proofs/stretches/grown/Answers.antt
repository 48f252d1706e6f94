use Rattle.std.proofs.Common.{refl}
use Rattle.termimad_page_run.proofs.stretches.grown.Goals as goal

pub returns : goal.returns
returns c = (c.keep.result, c.keep.ensures, refl)
