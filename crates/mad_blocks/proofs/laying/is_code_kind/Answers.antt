use Rattle.std.proofs.Common.{rules}
use Rattle.mad_blocks.proofs.laying.is_code_kind.Goals as goal

pub returns-in-Code : goal.returns-in-Code
returns-in-Code c = search rules
