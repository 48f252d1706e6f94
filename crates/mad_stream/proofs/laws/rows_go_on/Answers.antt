use Rattle.mad_stream.proofs.LiveTextLemmas.{rows_go_on}
use Rattle.mad_stream.proofs.laws.rows_go_on.Goals as goal

pub returns : goal.returns
returns c = rows_go_on
