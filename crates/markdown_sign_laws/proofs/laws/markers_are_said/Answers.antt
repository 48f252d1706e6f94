use Rattle.markdown_sign_laws.proofs.laws.markers_are_said.Goals as goal
use Rattle.markdown_sign_laws.proofs.MarkerLemmas.{markers_said}

pub returns : goal.returns
returns c = markers_said
