use Rattle.std.proofs.Common.{sym, ◌∙◌}
use Rattle.mad_characters.proofs.WideColumns.{wide_columns, wide_solid}
use Rattle.mad_characters.proofs.wide.is_known_wide.Goals as goal

pub returns-clause-columns : goal.returns-clause-columns
returns-clause-columns c h = wide_columns c.args.c (sym c.is_in_ranges.ensures ∙ h)

pub returns-clause-solid : goal.returns-clause-solid
returns-clause-solid c h = wide_solid c.args.c (sym c.is_in_ranges.ensures ∙ h)
