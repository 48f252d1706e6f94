use Rattle.std.proofs.Common.{rules}
use Rattle.mad_format.proofs.room.check_width.Goals as goal

pub returns-clause-wide : goal.returns-clause-wide
returns-clause-wide c = search rules
