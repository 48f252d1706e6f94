use Rattle.std.proofs.Common.{subst, sym}
use Rattle.termimad_c.specs.HeldGrowths.{IsHeld}
use Rattle.termimad_c.proofs.live.Live.take_out.Goals as goal

pub into_loose-requires : goal.into_loose-requires
into_loose-requires c = subst (λ h. IsHeld h.growing) (sym c.emptied-held.ensures.taken) c.requires
