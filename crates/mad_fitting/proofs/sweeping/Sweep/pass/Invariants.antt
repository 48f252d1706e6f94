use Rattle.std.proofs.Common.{drop}
use Rattle.mad_fitting.proofs.PassLemmas.{Passing}
use Rattle.mad_fitting.proofs.sweeping.Sweep.pass.Given as goal

abbrev pub invariant-loop-index : goal.invariant-loop-index
invariant-loop-index l = Passing l.compound l.parts l.turns l.number l.index l.fn.self l.rest l.self (drop l.index l.parts)
