use Rattle.std.proofs.Common.{rules}
use Rattle.mad_blocks.proofs.laying.wrap_width.Goals as goal

pub returns-in_default : goal.returns-in_default
returns-in_default c = search rules
