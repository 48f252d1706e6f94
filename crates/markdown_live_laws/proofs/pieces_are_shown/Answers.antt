use Rattle.markdown_live_laws.proofs.FitLemmas.{pieces_are_shown}
use Rattle.markdown_live_laws.proofs.pieces_are_shown.Goals as goal

pub returns : goal.returns
returns c = pieces_are_shown
