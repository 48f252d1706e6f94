use Rattle.std.proofs.Common.{rules}
use Rattle.mad_rows.proofs.lines.PlacedLineDisplay.fmt.Goals as goal

pub returns-in-HorizontalRule-clause-writes : goal.returns-in-HorizontalRule-clause-writes
returns-in-HorizontalRule-clause-writes g c = search rules
