use Rattle.std.proofs.Common.{rules}
use Rattle.mad_measure.proofs.spacing.Spacing.completions_for.Goals as goal

pub returns : goal.returns
returns c = search rules
