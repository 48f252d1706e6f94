use Rattle.std.proofs.Common.{rules}
use Rattle.mad_measure.proofs.area.Area.contains.Goals as goal

pub returns-then-self-y : goal.returns-then-self-y
returns-then-self-y c = search rules
