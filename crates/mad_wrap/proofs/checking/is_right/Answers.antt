use Rattle.std.proofs.Common.{rules}
use Rattle.mad_wrap.proofs.checking.is_right.Goals as goal

pub returns-else-is_empty : goal.returns-else-is_empty
returns-else-is_empty c = search rules
