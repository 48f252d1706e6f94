use Rattle.std.proofs.Common.{rules}
use Rattle.mad_measure.proofs.tokens.takes_in.Goals as goal

pub returns-then-c_blank-blank-clause-stops : goal.returns-then-c_blank-blank-clause-stops
returns-then-c_blank-blank-clause-stops c = search rules
