use Rattle.std.proofs.Common.{drop}
use Rattle.mad_fitting.proofs.ShorteningLemmas.{KeepsFront}
use Rattle.mad_fitting.proofs.shortening.front_within.Given as goal

abbrev pub invariant-loop-compound : goal.invariant-loop-compound
invariant-loop-compound l = KeepsFront l.most l.left l.compounds (drop l.compound-index l.compounds) l.kept.items
