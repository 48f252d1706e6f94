use Rattle.std.proofs.Common.{rules}
use Rattle.mad_format.proofs.indents.follow_up.Goals as goal

pub returns-in-ListItem : goal.returns-in-ListItem
returns-in-ListItem c = search rules
