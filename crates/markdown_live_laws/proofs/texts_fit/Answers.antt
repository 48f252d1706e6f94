use Rattle.markdown_live_laws.proofs.FitLemmas.{texts_fit}
use Rattle.markdown_live_laws.proofs.texts_fit.Goals as goal

pub returns : goal.returns
returns c = texts_fit
