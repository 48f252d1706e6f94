use Rattle.std.proofs.Common.{rules}
use Rattle.mad_wrap.proofs.first_fit.FirstFit.put.Goals as goal

pub returns-then-token : goal.returns-then-token
returns-then-token c = search rules
