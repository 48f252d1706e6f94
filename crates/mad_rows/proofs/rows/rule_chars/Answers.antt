use Rattle.std.proofs.Common.{rules}
use Rattle.mad_rows.proofs.rows.rule_chars.Goals as goal

pub returns : goal.returns
returns c = search rules
