use Rattle.std.proofs.Common.{arith}
use Rattle.mad_patterns.proofs.found.FoundLine.new.Goals as goal

pub returns : goal.returns
returns c = λ sought lines some. absurd (omega (arith, some))
