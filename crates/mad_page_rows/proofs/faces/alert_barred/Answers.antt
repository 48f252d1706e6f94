use Rattle.std.proofs.Common.{◌∙◌}
use Rattle.mad_page_rows.proofs.BoxLemmas.{alert_is}
use Rattle.mad_page_rows.proofs.faces.alert_barred.Goals as goal

pub returns-in-len1-up : goal.returns-in-len1-up
returns-in-len1-up c = c.alert_of.ensures ∙ alert_is c.args.gutters.now _ c.in-len1-up.len_at_least
