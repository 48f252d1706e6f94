use Rattle.std.proofs.Common.{drop}
use Rattle.mad_fitting.proofs.GainLemmas.{Gaining}
use Rattle.mad_fitting.proofs.gains.push_gains.Given as goal

abbrev pub invariant-loop-part : goal.invariant-loop-part
invariant-loop-part l = Gaining l.compound.src.now l.parts l.fn.gains.items l.gains.items (drop l.part-index l.parts)
