use Rattle.std.proofs.Common.{drop}
use Rattle.mad_format.proofs.PlainLemmas.{FrontCut}
use Rattle.mad_format.proofs.plain.cut_front.Given as goal

abbrev pub invariant-loop-compound : goal.invariant-loop-compound
invariant-loop-compound l = FrontCut l.text l.after (drop l.compound-index l.compounds) l.compounds
