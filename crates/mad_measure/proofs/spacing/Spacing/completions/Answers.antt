use Rattle.std.proofs.Common.{rules}
use Rattle.mad_measure.proofs.spacing.Spacing.completions.Goals as goal

pub returns-in-Right : goal.returns-in-Right
returns-in-Right c = search rules

pub returns-in-Center : goal.returns-in-Center
returns-in-Center c = search rules
