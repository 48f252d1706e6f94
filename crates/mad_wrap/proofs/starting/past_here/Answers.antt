use Rattle.std.proofs.Common.{rules}
use Rattle.mad_wrap.proofs.starting.past_here.Goals as goal

pub returns-in-None : goal.returns-in-None
returns-in-None c = search rules
