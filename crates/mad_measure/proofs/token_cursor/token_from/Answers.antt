use Rattle.std.proofs.Common.{rules, refl}
use Rattle.std.proofs.lemmas.Bool.{cases_lt}
use Rattle.mad_measure.proofs.CursorLemmas.{border_by}
use Rattle.mad_measure.proofs.token_cursor.token_from.Goals as goal

pub token_at-requires-clause-border : goal.token_at-requires-clause-border
token_at-requires-clause-border c = border_by _ _ _ c.requires.border refl (search rules) (cases_lt 0 c.args.start)
