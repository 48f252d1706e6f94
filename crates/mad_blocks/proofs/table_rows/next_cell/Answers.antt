use Rattle.std.proofs.Common.{rules}
use Rattle.mad_blocks.proofs.table_rows.next_cell.Goals as goal

pub returns-in-None-clause-top : goal.returns-in-None-clause-top
returns-in-None-clause-top c = search rules
