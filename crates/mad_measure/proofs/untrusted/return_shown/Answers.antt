use Rattle.std.proofs.Common.{sym, ◌∙◌}
use Rattle.mad_measure.proofs.PrintableLemmas.{return_before}
use Rattle.mad_measure.proofs.untrusted.return_shown.Goals as goal

pub returns-in-Some : goal.returns-in-Some
returns-in-Some c = return_before _ _ c.in-Some.field-0 c.utf8.after (sym c.chars.ensures.rest ∙ c.in-Some.ensures.steps.0) c.in-Some.field-0-test.1
