use Rattle.std.proofs.Common.{rules}
use Rattle.mad_term.proofs.CommandBytes.{default_foreground, default_background}
use Rattle.mad_term.proofs.styles.closing_text.Goals as goal

pub returns-in-Some-Some : goal.returns-in-Some-Some
returns-in-Some-Some c = search (rules, default_foreground, default_background)

pub returns-in-Some-None : goal.returns-in-Some-None
returns-in-Some-None c = search (rules, default_background)

pub returns-in-None-Some : goal.returns-in-None-Some
returns-in-None-Some c = search (rules, default_foreground)
