use Rattle.std.proofs.Common.{◌∙◌}
use Rattle.mad_page_rows.proofs.BoxLemmas.{level_is}
use Rattle.mad_page_rows.proofs.faces.level_above.Goals as goal

pub returns-in-len1-up : goal.returns-in-len1-up
returns-in-len1-up c = c.level_of.ensures ∙ level_is c.args.gutters.now _ c.in-len1-up.len_at_least
