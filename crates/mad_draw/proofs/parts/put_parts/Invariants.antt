use Rattle.mad_draw.proofs.PartLemmas.{PartsWent}
use Rattle.mad_draw.proofs.parts.put_parts.Given as goal

abbrev pub invariant-loop-number : goal.invariant-loop-number
invariant-loop-number g l = PartsWent (g.P.Parts.part l.parts) l.number (g.O.Out.seen l.fn.out) (g.O.Out.seen l.out)
