use Rattle.std.proofs.Common.{rules}
use Rattle.mad_format.proofs.indents.later_indent.Goals as goal

pub returns-in-Hanging : goal.returns-in-Hanging
returns-in-Hanging c = search rules
