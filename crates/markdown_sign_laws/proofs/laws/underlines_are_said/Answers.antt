use Rattle.markdown_sign_laws.proofs.UnderlineLemmas.{underlines_said}
use Rattle.markdown_sign_laws.proofs.laws.underlines_are_said.Goals as goal

pub returns : goal.returns
returns c = underlines_said
