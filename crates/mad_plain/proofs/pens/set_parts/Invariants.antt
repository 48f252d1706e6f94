use Rattle.std.proofs.Common.{◌≡◌, length}
use Rattle.mad_plain.specs.Pens.{set_parts}
use Rattle.mad_plain.proofs.pens.set_parts.Given as goal

abbrev pub invariant-loop-rest : goal.invariant-loop-rest
invariant-loop-rest l = set_parts l.pen l.skip l.rest ≡ set_parts l.fn.pen 0 l.parts

abbrev pub decreases-loop-rest : goal.decreases-loop-rest
decreases-loop-rest l = length l.rest
