use Rattle.std.proofs.Common.{rules}
use Rattle.mad_layout.proofs.displayable_line.DisplayableLineDisplay.fmt.Goals as goal

pub returns-clause-writes : goal.returns-clause-writes
returns-clause-writes g c = search rules
