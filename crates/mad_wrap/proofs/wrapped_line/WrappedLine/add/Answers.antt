use Rattle.std.proofs.Common.{rules}
use Rattle.mad_wrap.proofs.wrapped_line.WrappedLine.add.Goals as goal

pub returns-clause-columns : goal.returns-clause-columns
returns-clause-columns c = search rules
