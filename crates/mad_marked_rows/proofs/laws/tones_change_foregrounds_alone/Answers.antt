use Rattle.mad_marked_rows.proofs.ForegroundLemmas.{foregrounds_alone}
use Rattle.mad_marked_rows.proofs.laws.tones_change_foregrounds_alone.Goals as goal

pub returns : goal.returns
returns c = foregrounds_alone
