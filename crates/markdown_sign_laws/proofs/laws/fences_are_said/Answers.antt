use Rattle.markdown_sign_laws.proofs.laws.fences_are_said.Goals as goal
use Rattle.markdown_sign_laws.proofs.FenceLemmas.{fences_said}

pub returns : goal.returns
returns c = fences_said
