use Rattle.std.proofs.Common.{rules}
use Rattle.mad_wrap.proofs.first_fit.FirstFit.new.Goals as goal

pub returns : goal.returns
returns c = search rules
