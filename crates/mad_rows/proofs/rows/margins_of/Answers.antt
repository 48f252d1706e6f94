use Rattle.std.proofs.Common.{rules}
use Rattle.mad_rows.proofs.rows.margins_of.Goals as goal

pub returns-in-Some : goal.returns-in-Some
returns-in-Some c = search rules
