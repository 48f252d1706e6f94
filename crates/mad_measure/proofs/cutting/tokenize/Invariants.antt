use Rattle.std.proofs.Common.{◌≡◌}
use Rattle.mad_measure.proofs.cutting.tokenize.Given as goal

abbrev pub invariant-loop-token : goal.invariant-loop-token
invariant-loop-token l = l.tokens.items ≡ l.yielded
