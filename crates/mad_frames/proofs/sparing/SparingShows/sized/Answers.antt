use Rattle.std.proofs.Common.{refl}
use Rattle.mad_frames.proofs.SparingLemmas.{same_keeps}
use Rattle.mad_frames.proofs.sparing.SparingShows.sized.Goals as goal

pub invariant_of-self : goal.invariant_of-self
invariant_of-self g c = same_keeps _ _ refl refl refl refl refl c.self.invariant
