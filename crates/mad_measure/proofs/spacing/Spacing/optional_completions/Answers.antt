use Rattle.std.proofs.Common.{rules}
use Rattle.mad_measure.proofs.spacing.Spacing.optional_completions.Goals as goal

pub returns-in-None : goal.returns-in-None
returns-in-None c = search rules
