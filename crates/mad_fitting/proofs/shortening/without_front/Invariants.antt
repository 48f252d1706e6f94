use Rattle.std.proofs.Common.{drop}
use Rattle.mad_fitting.proofs.ShorteningLemmas.{DropsFront}
use Rattle.mad_fitting.proofs.shortening.without_front.Given as goal

abbrev pub invariant-loop-compound : goal.invariant-loop-compound
invariant-loop-compound l = DropsFront l.least l.left l.compounds (drop l.compound-index l.compounds) l.kept.items
