use Rattle.std.proofs.Common.{drop}
use Rattle.mad_fitting.proofs.PassLemmas.{Sweeping}
use Rattle.mad_fitting.proofs.sweeping.cut_in_turn.Given as goal

abbrev pub invariant-loop-compound : goal.invariant-loop-compound
invariant-loop-compound l = Sweeping l.kind l.compounds l.turns l.number l.sweep (drop l.compound-index l.compounds)
