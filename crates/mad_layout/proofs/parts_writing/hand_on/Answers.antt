use Rattle.std.proofs.Common.{rules}
use Rattle.mad_layout.proofs.parts_writing.hand_on.Goals as goal

pub returns-clause-dropped : goal.returns-clause-dropped
returns-clause-dropped g c = search rules
