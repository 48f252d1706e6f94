use Rattle.markdown_live.proofs.LawLemmas.{rows_go_on}
use Rattle.markdown_live.proofs.laws.rows_go_on.Goals as goal

pub returns : goal.returns
returns c = rows_go_on
