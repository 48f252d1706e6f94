use Rattle.std.proofs.Common.{subst, sym}
use Rattle.termimad_c.specs.HeldTexts.{IsBegun}
use Rattle.termimad_c.proofs.held.Stream.take_out.Goals as goal

pub into_loose-requires : goal.into_loose-requires
into_loose-requires c = subst (λ h. IsBegun h.coming) (sym c.emptied-held.ensures.taken) c.requires
