use Rattle.std.proofs.Common.{rules}
use Rattle.mad_measure.proofs.area.Area.right.Goals as goal

pub returns : goal.returns
returns c = search rules
