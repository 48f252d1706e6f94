use Rattle.mad_field_rows.proofs.LawLemmas.{whole_row}
use Rattle.mad_field_rows.proofs.laws.short_line_is_shown_whole.Goals as goal

pub returns : goal.returns
returns c = whole_row
