use Rattle.std.proofs.Common.{drop}
use Rattle.mad_fitting.proofs.OrderLemmas.{AreMost}
use Rattle.mad_fitting.proofs.turns.most_columns.Given as goal

abbrev pub invariant-loop-gain : goal.invariant-loop-gain
invariant-loop-gain l = AreMost l.most (drop l.gain-index l.gains) l.gains
