use Rattle.mad_field_rows.proofs.PieceLemmas.{chars_known}
use Rattle.mad_field_rows.proofs.row_pieces.push_chars.Goals as goal

pub returns-clause-known : goal.returns-clause-known
returns-clause-known c = chars_known _ _ _ c.know_style.ensures c.know_style-2.ensures
