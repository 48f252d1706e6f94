use Rattle.std.proofs.Common.{drop}
use Rattle.std.specs.List.{AllByRecursion}
use Rattle.mad_fitting.specs.Order.{IsSmall}
use Rattle.mad_fitting.proofs.GainLemmas.{Gathers}
use Rattle.mad_fitting.proofs.gains.gains_of.Given as goal

abbrev pub invariant-loop-compound : goal.invariant-loop-compound
invariant-loop-compound l = record {
  gathers : Gathers l.kind l.compounds l.gains.items (drop l.compound-index l.compounds);
  small : AllByRecursion IsSmall l.gains.items;
}
