use Rattle.std.proofs.Common.{rules}
use Rattle.mad_rows.proofs.row_writing.TextRowsRows.push_row.Goals as goal

pub returns-clause-writes : goal.returns-clause-writes
returns-clause-writes c = search rules
